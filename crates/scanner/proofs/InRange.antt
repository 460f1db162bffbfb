-- Each token that a scanner takes can be scanned.
use Rattle.std.proofs.Common.{◌≡◌, ◌<◌, ℕ, zero, suc, Bool, true, false, List, [], ◌∷◌, length, slice_get, Some, refl, sym, subst, arith}
use Rattle.std.specs.Prelude.{IsTrue}
use Rattle.std.proofs.Math.Logic.{∥∥₁_elim}
use denote.Struct.Props.{props}
use Rattle.std.proofs.lemmas.Bool.Decides.{nat_tests}
use Rattle.stream_tokens.specs.declared.Token.{Token}
use Rattle.stream_tokens.specs.declared.Token.TheVariants.{Item, Empty, Stop, Done}
use Rattle.stream_tokens.specs.Nest.{leaf}
use Rattle.stream_tokens.specs.Flat.{flat}
use Rattle.stream_tokens.proofs.Ending.{EndsWithin, IsStream-ends}
use Rattle.block_core.specs.Move.{Move, Taking, Putting}
use Rattle.block_core.specs.Change.{ItemsBelow}
use Rattle.block_core.specs.Scan.{Children, kids, kid_moves, scan_moves}
use Rattle.block_core.specs.Ports.{Streams, AllStreams}
use Rattle.block_core.specs.Kind.{ScanKind, reading, moves}
use Rattle.block_core.specs.Runs.{Runs}
use Rattle.block_core.specs.Stands.{Stands}
use Rattle.block_core.specs.Steps.{MayTake}
use Rattle.scanner.specs.ScanSteps.{scan_steps, is_scanned}
use Rattle.scanner.specs.declared.scan_state.ScanState.{ScanState}

module _ (children : Children) where
  -- each token that is taken can be scanned
  abbrev TakesScanned : List Move → Type 0
  TakesScanned [] = Unit {0}
  TakesScanned (Taking p t ∷ ms) = IsTrue (is_scanned children t) × TakesScanned ms
  TakesScanned (Putting p t ∷ ms) = TakesScanned ms

  taken-at : (ms : List Move) (k p : ℕ) (t : Token) → TakesScanned ms → slice_get ms k ≡ Some (Taking p t) → IsTrue (is_scanned children t)
  taken-at [] k p t h at = absurd (cc)
  taken-at (Taking q u ∷ ms) zero p t h at =
      let same : u ≡ t = cc in
      subst (λ (x : Token). IsTrue (is_scanned children x)) same h.0
  taken-at (Taking q u ∷ ms) (suc k) p t h at = taken-at ms k p t h.1 at
  taken-at (Putting q u ∷ ms) zero p t h at = absurd (cc)
  taken-at (Putting q u ∷ ms) (suc k) p t h at = taken-at ms k p t h at

  kids-scanned : (cs : List (ℕ × ℕ)) (rest : List Move) → TakesScanned rest → TakesScanned (kid_moves cs rest)
  kids-scanned [] rest h = h
  kids-scanned (c ∷ cs) rest h = kids-scanned cs rest h

  scan-scanned : (more : Bool) (s : List Token) → EndsWithin 200 s → ItemsBelow (length children) s → TakesScanned (scan_moves children more s)
  scan-scanned more [] e b = tt
  scan-scanned false (Item r ∷ s) e b = (below b.0, kids-scanned (kids children (Some r)) _ (scan-scanned true s e b.1))
    where
      below : r < length children → IsTrue (is_scanned children (Item r))
      below h = grind (arith, nat_tests)
  scan-scanned true (Item r ∷ s) e b = (below b.0, kids-scanned (kids children (Some r)) _ (scan-scanned true s e b.1))
    where
      below : r < length children → IsTrue (is_scanned children (Item r))
      below h = grind (arith, nat_tests)
  scan-scanned false (Empty ∷ s) e b = (refl, scan-scanned true s e b)
  scan-scanned true (Empty ∷ s) e b = (refl, scan-scanned true s e b)
  scan-scanned more (Stop n ∷ s) e b = (low e.0, scan-scanned false s e.1 b)
    where
      low : n < 200 → IsTrue (is_scanned children (Stop n))
      low h = grind (arith, nat_tests)
  scan-scanned false (Done ∷ s) e b = (refl, tt)
  scan-scanned true (Done ∷ s) e b = (refl, tt)

  stands-scanned : (state : ScanState) (s : Streams) (n p : ℕ) (t : Token) → Stands (Runs (scan_steps children) state) (ScanKind children) s n
      → slice_get (moves (ScanKind children) s) n ≡ Some (Taking p t) → IsTrue (is_scanned children t)
  stands-scanned state s n p t h at =
      let whole : AllStreams (flat leaf (reading (ScanKind children) s) ∷ []) = subst AllStreams (sym h.fits.back) h.fits.streams in
      taken-at (moves (ScanKind children) s) n p t
      (scan-scanned false (flat leaf (reading (ScanKind children) s)) (IsStream-ends _ whole.0) h.fits.well.references) at

  -- where a scanner may take a token, it can be scanned
  pub may-take-scanned : (state : ScanState) (p : ℕ) (t : Token)
      → MayTake (Stands (Runs (scan_steps children) state) (ScanKind children)) (ScanKind children) p t → IsTrue (is_scanned children t)
  may-take-scanned state p t may =
      let one : IsProp (IsTrue (is_scanned children t)) = hlevel props in
      ∥∥₁_elim {P = IsTrue (is_scanned children t)} may one (λ at. stands-scanned state at.0 at.1 p t at.2 at.3)
