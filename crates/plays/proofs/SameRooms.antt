-- Limits that agree on the channels of a net allow the same plays.
use Rattle.std.specs.Prelude.{◌≡◌, ◌<◌, ℕ, Bool, cond, List, [], ◌∷◌, slice_get, Option, Some, None}
use Rattle.std.proofs.Common.{refl, sym, ◌∙◌, ap}
use Rattle.block_core.specs.Move.{Move, Taking, Putting}
use Rattle.plays.specs.Net.{Net, Rooms, State, Wired, Reached, Stuck, waiting, has_room, can_move, can, raise, turn, play, start}

module _ (net : Net) (a b : Rooms) (wired : Wired net) (same : (c : ℕ) → c < net.channels → a c ≡ b c) where
  pub same_can : (s : State) (x : ℕ) → can net a s x ≡ can net b s x
  same_can s x = by_move (slice_get (net.moves x) (s x)) refl
    where
      by_move : (o : Option Move) → slice_get (net.moves x) (s x) ≡ o → can_move net a s x o ≡ can_move net b s x o
      by_move None e = refl
      by_move (Some (Taking p t)) e = refl
      by_move (Some (Putting p t)) e =
          ap (λ (room : Option ℕ). has_room room (waiting net s (net.out_of x p))) (same (net.out_of x p) (wired.put x (s x) p t e).2)

  same_turn : (s : State) (x : ℕ) → turn net a s x ≡ turn net b s x
  same_turn s x = ap (λ (z : Bool). cond z (raise x s) s) (same_can s x)

  same_play : (s : State) (schedule : List ℕ) → play net a s schedule ≡ play net b s schedule
  same_play s [] = refl
  same_play s (x ∷ xs) = same_play (turn net a s x) xs ∙ ap (λ (t : State). play net b t xs) (same_turn s x)

  pub same_reached : (s : State) → Reached net a s → Reached net b s
  same_reached s r = (r.0, r.1 ∙ same_play start r.0)

  pub same_stuck : (s : State) → Stuck net a s → Stuck net b s
  same_stuck s stuck x l = sym (same_can s x) ∙ stuck x l
