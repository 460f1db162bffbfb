-- A new scanner makes the moves of its kind.
use Rattle.std.proofs.Common.{◌≡◌, ◌<◌, ◌≤◌, ◌+◌, ℕ, Bool, true, false, List, [], ◌∷◌, length, get_or, drop, Some, refl, sym, ap, subst, add-one, arith}
use Rattle.std.specs.Prelude.{nat_lt}
use Rattle.std.proofs.lemmas.Bool.Decides.{nat_tests}
use Rattle.stream_tokens.specs.declared.Token.{Token}
use Rattle.stream_tokens.specs.declared.Token.TheVariants.{Item, Empty, Stop, Done}
use Rattle.stream_tokens.specs.Nest.{leaf}
use Rattle.stream_tokens.specs.Flat.{flat}
use Rattle.stream_tokens.proofs.Ending.{EndsWithin, IsStream-ends}
use Rattle.block_core.specs.declared.Wish.TheVariants.{Put}
use Rattle.block_core.specs.Move.{Move}
use Rattle.block_core.specs.Scan.{Children, kids, kid_moves, scan_moves}
use Rattle.block_core.specs.Ports.{Streams, AllStreams}
use Rattle.block_core.specs.Kind.{ScanKind, Fits, reading}
use Rattle.block_core.specs.Runs.{Runs}
use Rattle.block_core.specs.Stands.{Stands}
use Rattle.block_core.proofs.Standing.{stands-start}
use Rattle.scanner.specs.ScanSteps.{scan_steps, child_from}
use Rattle.scanner.specs.declared.scan_state.ScanState.{ScanState}
use Rattle.scanner.specs.declared.scan_state.ScanState.TheVariants.{Wanting, Child}
use Rattle.scanner.specs.declared.scan_state.Output.TheVariants.{Coordinates}
use Rattle.scanner.proofs.Places.{drop-none, StandsAt, drop-some}

module _ (children : Children) where
  no-child : (r n : ℕ) → length (get_or children r []) ≤ n → child_from children r n ≡ Wanting true
  no-child r n past =
      let test : nat_lt n (length (get_or children r [])) ≡ false = grind (arith, nat_tests) in
      rw test refl

  a-child : (r n : ℕ) → n < length (get_or children r []) → child_from children r n ≡ Child Coordinates r n
  a-child r n inside =
      let test : nat_lt n (length (get_or children r [])) ≡ true = grind (arith, nat_tests) in
      rw test refl

  kids-run : (r n : ℕ) (cs : List (ℕ × ℕ)) (rest : List Move) → drop n (get_or children r []) ≡ cs
      → Runs (scan_steps children) (Wanting true) rest
      → Runs (scan_steps children) (child_from children r n) (kid_moves cs rest)
  kids-run r n [] rest e h = subst (λ (x : ScanState). Runs (scan_steps children) x rest) (sym (no-child r n (drop-none _ n e))) h
  kids-run r n (c ∷ cs) rest e h =
      let at : StandsAt (0, 0) (get_or children r []) n c cs = drop-some (0, 0) (get_or children r []) n c cs e in
      let next : drop (n + 1) (get_or children r []) ≡ cs = rw add-one at.after in
      subst (λ (x : ScanState). Runs (scan_steps children) x (kid_moves (c ∷ cs) rest)) (sym (a-child r n at.inside))
      (ap (λ (x : ℕ × ℕ). Put 0 (Item x.0)) at.there, (ap (λ (x : ℕ × ℕ). Put 1 (Item x.1)) at.there, kids-run r (n + 1) cs rest next h))

  pub scan-run : (more : Bool) (s : List Token) → EndsWithin 200 s → Runs (scan_steps children) (Wanting more) (scan_moves children more s)
  scan-run more [] e = absurd e
  scan-run false (Item r ∷ s) e = (refl, kids-run r 0 (kids children (Some r)) _ refl (scan-run true s e))
  scan-run true (Item r ∷ s) e = (refl, (refl, (refl, kids-run r 0 (kids children (Some r)) _ refl (scan-run true s e))))
  scan-run false (Empty ∷ s) e = (refl, scan-run true s e)
  scan-run true (Empty ∷ s) e = (refl, (refl, (refl, scan-run true s e)))
  scan-run false (Stop n ∷ s) e = (refl, (refl, (refl, scan-run false s e.1)))
  scan-run true (Stop n ∷ s) e = (refl, (refl, (refl, scan-run false s e.1)))
  scan-run false (Done ∷ s) e = (refl, (refl, (refl, refl)))
  scan-run true (Done ∷ s) e = (refl, (refl, (refl, (refl, (refl, refl)))))

  pub scan-starts : (s : Streams) → Fits (ScanKind children) s → Stands (Runs (scan_steps children) (Wanting false)) (ScanKind children) s 0
  scan-starts s f =
      let whole : AllStreams (flat leaf (reading (ScanKind children) s) ∷ []) = subst AllStreams (sym f.back) f.streams in
      stands-start (scan_steps children) (Wanting false) (ScanKind children) s f
      (scan-run false (flat leaf (reading (ScanKind children) s)) (IsStream-ends (flat leaf (reading (ScanKind children) s)) whole.0))
