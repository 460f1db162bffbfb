-- Turns of blocks, one after another.
use Rattle.std.specs.Prelude.{◌≡◌, ◌<◌, ◌≤◌, ℕ, ◌+◌, Bool, true, false, cond, List, [], ◌∷◌, ◌++◌, length, take}
use Rattle.std.specs.Prelude.{slice_get, get_or, Option, Some, None, refl}
use Rattle.std.proofs.Common.{arith, sym, ◌∙◌, ap, subst}
use Rattle.std.proofs.lemmas.List.{take_more, get_or_default}
use Rattle.std.proofs.lemmas.Option.{slice_get_past}
use Rattle.block_core.specs.declared.BlockStep.{Ghosts}
use Rattle.block_core.specs.Move.{Move, Taking, Putting}
use Rattle.plays.specs.Net.{Net, Rooms, State, Stuck, can, can_move, turn, play}
use Rattle.plays.proofs.Tellings.{grew_same, grew_then}
use Rattle.plays.proofs.Always.{turn_made, turn_idle, play_append}
use Rattle.plays.specs.Held.{Held}
use Rattle.stepper.specs.NetOf.{net_of, rooms_of}
use Rattle.stepper.specs.AtState.{AtState, Wherever}
use Rattle.plays.specs.Told.{Tapped, Grew, HasLists}
use Rattle.stepper.specs.Steps.{WaitsOn, HasEnded, Moved, SameShape, hindrance, hindrance_of}
use Rattle.stepper.specs.Runs.{Played, Turned}

-- ---- a block that has to wait, or is through, has no event

held_back : (v : Bool) (o : ℕ × Bool) (c : ℕ) (full : Bool) → ◌≡◌ {A = Option (ℕ × Bool)} (cond v None (Some o)) (Some (c, full)) → v ≡ false
held_back true o c full e = absurd (cc)
held_back false o c full e = refl

hindered_cannot : (net : Net) (rooms : Rooms) (s : State) (b c : ℕ) (full : Bool) (o : Option Move)
    → ◌≡◌ {A = Option (ℕ × Bool)} (hindrance_of net rooms s b o) (Some (c, full)) → can_move net rooms s b o ≡ false
hindered_cannot net rooms s b c full None e = refl
hindered_cannot net rooms s b c full (Some (Taking p t)) e = held_back _ _ c full e
hindered_cannot net rooms s b c full (Some (Putting p t)) e = held_back _ _ c full e

pub hindered_idle : (net : Net) (rooms : Rooms) (s : State) (b c : ℕ) (full : Bool)
    → ◌≡◌ {A = Option (ℕ × Bool)} (hindrance net rooms s b) (Some (c, full)) → can net rooms s b ≡ false
hindered_idle net rooms s b c full e = hindered_cannot net rooms s b c full (slice_get (net.moves b) (s b)) e

pub through_idle : (net : Net) (rooms : Rooms) (s : State) (b : ℕ) → s b ≡ length (net.moves b) → can net rooms s b ≡ false
through_idle net rooms s b e = ap (can_move net rooms s b) (slice_get_past (net.moves b) (s b) (omega (arith, e)))

-- ---- one turn

module _ {B : Type 0} (step : Ghosts B) where
  pub turned_moved : (b : ℕ) (m : Held B) (told : Tapped) (m' : Held B) (told' : Tapped)
      → Moved step b m told m' told' → Turned step b true m told m' told'
  turned_moved b m told m' told' moves storages g caps s h =
      let r = moves storages g caps s h in
      let made = turn_made (net_of storages g) (rooms_of caps) s b r.0 in (
        r.0,
        subst (λ t. AtState step storages g caps t m') (sym made) r.1,
        subst (λ t. Grew (net_of storages g) s t told told') (sym made) r.2,
      )

  turned_idle : (b : ℕ) (m : Held B) (told : Tapped) (m' : Held B) (told' : Tapped)
      → Wherever step m (λ net rooms s. can net rooms s b ≡ false) → m' ≡ m → told' ≡ told → Turned step b false m told m' told'
  turned_idle b m told m' told' cannot same same_told storages g caps s h =
      let net = net_of storages g in
      let none = cannot storages g caps s h in
      let idle = turn_idle net (rooms_of caps) s b none in (
        none,
        subst (λ t. AtState step storages g caps t m') (sym idle) (subst (AtState step storages g caps s) (sym same) h),
        subst (λ t. Grew net s t told told') (sym idle) (subst (Grew net s s told) (sym same_told) (grew_same net s told)),
      )

  pub turned_blocked : (b c : ℕ) (full : Bool) (m : Held B) (told : Tapped) (m' : Held B) (told' : Tapped)
      → (m' ≡ m) × (told' ≡ told) × WaitsOn step b c full m → Turned step b false m told m' told'
  turned_blocked b c full m told m' told' h =
      turned_idle b m told m' told' (λ storages g caps s a. hindered_idle (net_of storages g) (rooms_of caps) s b c full (h.2 storages g caps s a)) h.0 h.1

  pub turned_ended : (b : ℕ) (m : Held B) (told : Tapped) (m' : Held B) (told' : Tapped)
      → (m' ≡ m) × (told' ≡ told) × HasEnded step b m → Turned step b false m told m' told'
  turned_ended b m told m' told' h =
      turned_idle b m told m' told' (λ storages g caps s a. through_idle (net_of storages g) (rooms_of caps) s b (h.2 storages g caps s a)) h.0 h.1

  -- ---- a schedule

  -- one turn more of a schedule
  pub played_more : (bs : List ℕ) (i : ℕ) (moved : Bool) (m : Held B) (told : Tapped) (m' : Held B) (told' : Tapped) (m'' : Held B) (told'' : Tapped)
      → i < length bs
      → Played step (take i bs) m told m' told' → Turned step (get_or bs i 0) moved m' told' m'' told'' → Played step (take (i + 1) bs) m told m'' told''
  played_more bs i moved m told m' told' m'' told'' l first next storages g caps s h =
      let net = net_of storages g in
      let rooms = rooms_of caps in
      let p = first storages g caps s h in
      let q = next storages g caps (play net rooms s (take i bs)) p.0 in
      let b : ℕ = get_or bs i 0 in
      let longer : take (i + 1) bs ≡ take i bs ++ b ∷ [] = take_more bs i 0 l in
      let same : turn net rooms (play net rooms s (take i bs)) b ≡ play net rooms s (take (i + 1) bs) =
      sym (play_append net rooms s (take i bs) (b ∷ [])) ∙ ap (play net rooms s) (sym longer) in (
        subst (λ t. AtState step storages g caps t m'') same q.1,
        subst (λ t. Grew net s t told told'') same
            (grew_then net s (play net rooms s (take i bs)) (turn net rooms (play net rooms s (take i bs)) b) told told' told'' p.1 q.2),
      )

-- ---- what stays

pub shape_then : {B : Type 0} (x y z : Held B) → SameShape x y → SameShape y z → SameShape x z
shape_then x y z a b = (b.0 ∙ a.0, b.1 ∙ a.1, b.2 ∙ a.2)

pub lists_same : (n m : ℕ) (told : Tapped) → m ≡ n → HasLists m told → HasLists n told
lists_same n m told e h = subst (λ k. HasLists k told) e h

-- ---- a pass

module _ {B : Type 0} (step : Ghosts B) where
  -- a pass in which no block could move
  pub all_cannot : (m : Held B) (n : ℕ) → length m.routes.order ≤ n
      → ((k : ℕ) → k < n → Wherever step m (λ net rooms s. can net rooms s (get_or m.routes.order k 0) ≡ false)) → Wherever step m Stuck
  all_cannot m n l cannot storages g caps s h b lb =
      let at = h.routed.order.whole b lb in
      let same : get_or m.routes.order at.0 0 ≡ b = get_or_default m.routes.order at.0 0 b at.1 ∙ at.2 in
      subst (λ x. can (net_of storages g) (rooms_of caps) s x ≡ false) same (cannot at.0 (omega (arith, l, at.1)) storages g caps s h)
