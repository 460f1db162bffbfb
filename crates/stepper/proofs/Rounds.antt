-- Rounds of bursts, and how many there can be.
use Rattle.std.specs.Prelude.{◌≡◌, ◌<◌, ◌≤◌, ℕ, ◌+◌, ◌-◌, ◌||◌, Bool, true, false, [], ◌∷◌, ◌++◌, length, refl}
use Rattle.std.proofs.Common.{arith, sym, ◌∙◌, ap, subst}
use Rattle.std.proofs.Math.Logic.{∥∥₁_elim, ∥∥₁_map}
use Rattle.std.specs.Coded.{le_prop}
use Rattle.block_core.specs.declared.BlockStep.{Ghosts}
use Rattle.graph.specs.Standing.{block_moves}
use Rattle.plays.specs.Net.{State, play, sum_below, can, turn}
use Rattle.plays.specs.Held.{Held}
use Rattle.plays.specs.Told.{Tapped}
use Rattle.plays.proofs.Always.{play_append, in_net, turn_made, turn_idle}
use Rattle.plays.proofs.Sums.{raise_sum, sum_no_more}
use Rattle.plays.proofs.Tellings.{grew_same, grew_then}
use Rattle.stepper.specs.NetOf.{net_of, rooms_of}
use Rattle.stepper.specs.AtState.{Somewhere}
use Rattle.stepper.specs.Runs.{Onwards, Turned}
use Rattle.stepper.specs.Bursting.{OnwardsBy, SomewhereFar}
use Rattle.stepper.specs.AllMoves.{all_moves}
use Rattle.stepper.proofs.Wires.{wired}
use Rattle.stepper.proofs.AllMoves.{all_moves_are}

module _ {B : Type 0} (step : Ghosts B) where
  pub went_none : (m : Held B) (told : Tapped) → OnwardsBy step m told m told false
  went_none m told storages g caps s h = (s, ([], refl), h, grew_same (net_of storages g) s told, omega arith, λ z. absurd (cc))

  pub went_then : (m : Held B) (told : Tapped) (m' : Held B) (told' : Tapped) (m'' : Held B) (told'' : Tapped) (a b : Bool)
      → OnwardsBy step m told m' told' a → OnwardsBy step m' told' m'' told'' b → OnwardsBy step m told m'' told'' (a || b)
  went_then m told m' told' m'' told'' a b first next storages g caps s h =
      let net = net_of storages g in
      let rooms = rooms_of caps in
      let p = first storages g caps s h in
      let q = next storages g caps p.0 p.2 in
      let l = p.4 in
      let k = q.4 in (
        q.0,
        (p.1.0 ++ q.1.0, q.1.1 ∙ ap (λ (x : State). play net rooms x q.1.0) p.1.1 ∙ sym (play_append net rooms s p.1.0 q.1.0)),
        q.2,
        grew_then net s p.0 q.0 told told' told'' p.3 q.3,
        omega (arith, l, k),
        some a b (sum_below net.blocks s) (sum_below net.blocks p.0) (sum_below net.blocks q.0) l k p.5 q.5,
      )
    where
      some : (a b : Bool) (x y z : ℕ) → x ≤ y → y ≤ z → (a ≡ true → x < y) → (b ≡ true → y < z) → a || b ≡ true → x < z
      some true b x y z l k f g e = let h = f refl in omega (arith, h, k)
      some false true x y z l k f g e = let h = g refl in omega (arith, h, l)
      some false false x y z l k f g e = absurd (cc)

  -- that there was an event is forgotten
  pub went_less : (m : Held B) (told : Tapped) (m' : Held B) (told' : Tapped) (went : Bool)
      → OnwardsBy step m told m' told' went → OnwardsBy step m told m' told' false
  went_less m told m' told' went h storages g caps s a =
      let p = h storages g caps s a in (p.0, p.1, p.2, p.3, p.4, λ z. absurd (cc))

  pub went_onwards : (m : Held B) (told : Tapped) (m' : Held B) (told' : Tapped) (went : Bool)
      → OnwardsBy step m told m' told' went → Onwards step m told m' told'
  went_onwards m told m' told' went h storages g caps s a = let p = h storages g caps s a in (p.0, p.1, p.2, p.3)

  pub went_same : (m : Held B) (told : Tapped) (m' : Held B) (told' : Tapped) → (m' ≡ m) × (told' ≡ told) → OnwardsBy step m told m' told' false
  went_same m told m' told' e =
      subst (λ z. OnwardsBy step m told z told' false) (sym e.0) (subst (λ z. OnwardsBy step m told m z false) (sym e.1) (went_none m told))

  -- one turn
  pub went_turned : (b : ℕ) (moved : Bool) (m : Held B) (told : Tapped) (m' : Held B) (told' : Tapped)
      → Turned step b moved m told m' told' → OnwardsBy step m told m' told' moved
  went_turned b moved m told m' told' h storages g caps s a =
      let net = net_of storages g in
      let rooms = rooms_of caps in
      let r = h storages g caps s a in
      let l : can net rooms s b ≡ true → b < net.blocks = in_net net rooms s b (wired storages g a.well_formed a.consistent) in
      let sum = by_case moved r.0 l in
      (turn net rooms s b, (b ∷ [], refl), r.1, r.2, sum.0, sum.1)
    where
      by_case : (moved : Bool) → can (net_of storages g) (rooms_of caps) s b ≡ moved → (can (net_of storages g) (rooms_of caps) s b ≡ true → b < length g.blocks)
          → (sum_below (length g.blocks) s ≤ sum_below (length g.blocks) (turn (net_of storages g) (rooms_of caps) s b))
          × (moved ≡ true → sum_below (length g.blocks) s < sum_below (length g.blocks) (turn (net_of storages g) (rooms_of caps) s b))
      by_case true e l =
          let made = ap (sum_below (length g.blocks)) (turn_made (net_of storages g) (rooms_of caps) s b e) in
          let more = raise_sum (length g.blocks) b s (l e) in
          (omega (arith, made, more), λ z. omega (arith, made, more))
      by_case false e l =
          let idle = ap (sum_below (length g.blocks)) (turn_idle (net_of storages g) (rooms_of caps) s b e) in
          (omega (arith, idle), λ z. absurd (cc))

  -- a round with an event leaves fewer to come
  pub fewer : (m : Held B) (told : Tapped) (m' : Held B) (told' : Tapped) (n : ℕ)
      → OnwardsBy step m told m' told' true → ∥ (SomewhereFar step m n) ∥₁ → all_moves step.kind m' - (n + 1) < all_moves step.kind m - n
  fewer m told m' told' n h far = ∥∥₁_elim far le_prop (λ r.
      let o = h r.0 r.1 r.2 r.3 r.4 in
      let x = all_moves_are step r.0 r.1 r.2 r.3 m r.4 in
      let y = all_moves_are step r.0 r.1 r.2 o.0 m' o.2 in
      let most = sum_no_more (length r.1.blocks) o.0 (λ b. length (block_moves r.0 r.1 b)) o.2.kept.within in
      let more = o.5 refl in
      let l = r.5 in
      omega (arith, x, y, most, more, l))

  pub further : (m : Held B) (told : Tapped) (m' : Held B) (told' : Tapped) (n : ℕ)
      → OnwardsBy step m told m' told' true → ∥ (SomewhereFar step m n) ∥₁ → ∥ (SomewhereFar step m' (n + 1)) ∥₁
  further m told m' told' n h far = ∥∥₁_map far (λ r.
      let o = h r.0 r.1 r.2 r.3 r.4 in
      let more = o.5 refl in
      let l = r.5 in
      (r.0, r.1, r.2, o.0, o.2, omega (arith, more, l)))

  pub not_far : (m : Held B) → ∥ (Somewhere step m) ∥₁ → ∥ (SomewhereFar step m 0) ∥₁
  not_far m sits = ∥∥₁_map sits (λ r. (r.0, r.1, r.2, r.3, r.4, omega arith))
