-- What a level writer keeps, from its first token on.
use Rattle.std.proofs.Common.{◌≡◌, ◌∙◌, ℕ, suc, ◌+◌, Bool, true, false, eqb, List, [], ◌∷◌, ◌++◌, length, slice_get, Some, inl, sym, ap, subst, refl, arith, append_assoc, append-nil, length-append, add-one, add-zero}
use Rattle.stream_tokens.specs.declared.Token.{Token}
use Rattle.stream_tokens.specs.declared.Token.TheVariants.{Item, Empty, Stop, Done}
use Rattle.stream_tokens.specs.Nest.{Fiber}
use Rattle.stream_tokens.specs.Flat.{fiber_tokens, flat}
use Rattle.stream_tokens.specs.Shapes.{Positive}
use Rattle.block_core.specs.Move.{Move, Taking, Putting, takes}
use Rattle.block_core.specs.Ports.{Streams, port, numbers_of}
use Rattle.block_core.specs.Cast.{drain_moves}
use Rattle.block_core.specs.Kind.{Fits, WriteLevelKind, moves}
use Rattle.block_core.specs.Written.{items_in, item_fibers, ends_from, segs_of, crds_of}
use Rattle.block_core.specs.Stands.{Stands}
use Rattle.block_core.proofs.Readings.{item_fibers-flat}
use Rattle.block_core.proofs.Standing.{stands-step}
use Rattle.level_writer.specs.WriterSteps.{writer_took}
use Rattle.level_writer.specs.Kept.{filled_by, ends_after, KeepsLevel}
use Rattle.stream_tokens.proofs.Ending.{EndsWithin}
use Rattle.level_writer.proofs.WriterRuns.{writer-run, writer-takes, input-ends, port-zero, items-step}

-- ---- one token

-- what a token and those after it bring is what it brings, and then what they do
ends-step : (first filled : Bool) (crds : List ℕ) (t : Token) (s : List Token)
    → ends_after first filled (length crds) (t ∷ s)
    ≡ ends_after first filled (length crds) (t ∷ []) ++ ends_after first (filled_by filled t) (length (crds ++ items_in (t ∷ []))) s
ends-step first filled crds (Item x) s = rw (length-append, add-one) refl
ends-step first filled crds Empty s = rw append-nil refl
ends-step true true crds (Stop n) s = rw append-nil refl
ends-step false true crds (Stop n) s = rw append-nil refl
ends-step true false crds (Stop n) s = rw append-nil refl
ends-step false false crds (Stop n) s = rw append-nil refl
ends-step first filled crds Done s = rw append-nil refl

level-taken : (level : ℕ) (segs crds : List ℕ) (filled ended : Bool) (s : List Token) (p : ℕ) (t : Token) (rest : List Move)
    → KeepsLevel level segs crds filled ended s (Taking p t ∷ rest)
    → KeepsLevel level (segs ++ ends_after (eqb level 1) filled (length crds) (t ∷ [])) (crds ++ items_in (t ∷ [])) (filled_by filled t) (writer_took ended t) s rest
level-taken level segs crds filled ended s p t rest h =
    let first = eqb level 1 in
    let left = takes 0 rest in
    let C : ℕ → Type 0 = λ q. crds ++ items_in (takes 0 (Taking q t ∷ rest)) ≡ crds_of s in
    let S : ℕ → Type 0 = λ q. segs ++ ends_after first filled (length crds) (takes 0 (Taking q t ∷ rest)) ≡ segs_of level s in
    let e : p ≡ 0 = port-zero ended p h.runs.0 in
    let c : crds ++ items_in (t ∷ left) ≡ crds_of s = subst C e h.crds_kept in
    let g : segs ++ ends_after first filled (length crds) (t ∷ left) ≡ segs_of level s = subst S e h.segs_kept in
    record {
      runs = h.runs.1;
      crds_kept = append_assoc crds (items_in (t ∷ [])) (items_in left) ∙ ap (λ (x : List ℕ). crds ++ x) (sym (items-step t left)) ∙ c;
      segs_kept = append_assoc segs (ends_after first filled (length crds) (t ∷ []))
          (ends_after first (filled_by filled t) (length (crds ++ items_in (t ∷ []))) left)
          ∙ ap (λ (x : List ℕ). segs ++ x) (sym (ends-step first filled crds t left)) ∙ g;
    }

pub level-take : (level level' : ℕ) (segs segs' crds crds' : List ℕ) (filled filled' ended ended' : Bool) (s : Streams) (n p : ℕ) (t : Token)
    → level' ≡ level
    → segs' ≡ segs ++ ends_after (eqb level 1) filled (length crds) (t ∷ []) → crds' ≡ crds ++ items_in (t ∷ [])
    → filled' ≡ filled_by filled t → ended' ≡ writer_took ended t
    → slice_get (moves (WriteLevelKind level) s) n ≡ Some (Taking p t)
    → Stands (KeepsLevel level segs crds filled ended (port 0 s)) (WriteLevelKind level) s n
    → Stands (KeepsLevel level' segs' crds' filled' ended' (port 0 s)) (WriteLevelKind level') s (n + 1)
level-take level level' segs segs' crds crds' filled filled' ended ended' s n p t l g c f e at h =
    rw (l, g, c, f, e)
    (stands-step (KeepsLevel level segs crds filled ended (port 0 s)) _ (WriteLevelKind level) s n (Taking p t)
    (level-taken level segs crds filled ended (port 0 s) p t) at h)

level-passed : (level : ℕ) (segs crds : List ℕ) (filled ended : Bool) (s : List Token) (p : ℕ) (t : Token) (rest : List Move)
    → KeepsLevel level segs crds filled ended s (Putting p t ∷ rest) → KeepsLevel level segs crds filled ended s rest
level-passed level segs crds filled ended s p t rest h = record { runs = h.runs.1; crds_kept = h.crds_kept; segs_kept = h.segs_kept }

pub level-put : (level : ℕ) (segs crds : List ℕ) (filled ended : Bool) (s : Streams) (n p : ℕ) (t : Token)
    → slice_get (moves (WriteLevelKind level) s) n ≡ Some (Putting p t)
    → Stands (KeepsLevel level segs crds filled ended (port 0 s)) (WriteLevelKind level) s n
    → Stands (KeepsLevel level segs crds filled ended (port 0 s)) (WriteLevelKind level) s (n + 1)
level-put level segs crds filled ended s n p t at h =
    stands-step (KeepsLevel level segs crds filled ended (port 0 s)) (KeepsLevel level segs crds filled ended (port 0 s)) (WriteLevelKind level) s n (Putting p t)
    (level-passed level segs crds filled ended (port 0 s) p t) at h

-- ---- the whole stream

-- a fiber with an item before
fiber-ends : (first : Bool) (count k : ℕ) (xs : List ℕ) (t : List Token)
    → ends_after first true count (fiber_tokens Item xs (Stop k ∷ t)) ≡ (count + length xs) ∷ ends_after first false (count + length xs) t
fiber-ends first count k [] t = rw add-zero refl
fiber-ends first count k (x ∷ xs) t =
    let e : suc count + length xs ≡ count + suc (length xs) = omega arith in
    rw (fiber-ends first (suc count) k xs t, e) refl

-- the next fiber, where the fibers fs after it are as they should
next-ends : (first : Bool) (count k : ℕ) (xs : List ℕ) (fs : List (Fiber ℕ))
    → ((m : ℕ) → ends_after first false m (flat Item fs) ≡ ends_from first m fs)
    → ends_after first false count (flat Item ((xs, suc k) ∷ fs)) ≡ ends_from first count ((xs, suc k) ∷ fs)
next-ends true count k [] fs h = rw add-zero (ap (λ (x : List ℕ). count ∷ x) (h count))
next-ends false count k [] fs h = h count
next-ends true count k (x ∷ xs) fs h =
    let e : suc count + length xs ≡ count + suc (length xs) = omega arith in
    rw (fiber-ends true (suc count) k xs (flat Item fs), e, h (count + suc (length xs))) refl
next-ends false count k (x ∷ xs) fs h =
    let e : suc count + length xs ≡ count + suc (length xs) = omega arith in
    rw (fiber-ends false (suc count) k xs (flat Item fs), e, h (count + suc (length xs))) refl

whole-ends : (first : Bool) (count : ℕ) (fs : List (Fiber ℕ)) → Positive fs → ends_after first false count (flat Item fs) ≡ ends_from first count fs
whole-ends first count [] h = refl
whole-ends first count ((xs, n) ∷ fs) h =
    let P : ℕ → Type 0 = λ m. ends_after first false count (flat Item ((xs, m) ∷ fs)) ≡ ends_from first count ((xs, m) ∷ fs) in
    subst P (sym h.0.1) (next-ends first count h.0.0 xs fs (λ m. whole-ends first m fs h.1))

pub level-start : (level : ℕ) (s : Streams) → Fits (WriteLevelKind level) s
    → Stands (KeepsLevel level (0 ∷ []) [] false false (port 0 s)) (WriteLevelKind level) s 0
level-start level s f =
    let fs = numbers_of (port 0 s) in
    let e : flat Item fs ≡ port 0 s = ap (port 0) f.back in
    let ends : EndsWithin 200 (flat Item fs) = subst (λ (t : List Token). EndsWithin 200 t) (sym e) (input-ends s (flat Item fs) f.back f.streams) in
    let taken : takes 0 (drain_moves (flat Item fs)) ≡ port 0 s = writer-takes (flat Item fs) ∙ e in
    let first = eqb level 1 in
    let P : List Token → Type 0 = λ t. ends_after first false 0 t ≡ ends_from first 0 (item_fibers t) in
    let written : ends_after first false 0 (flat Item fs) ≡ ends_from first 0 (item_fibers (flat Item fs)) =
    whole-ends first 0 fs f.well ∙ ap (ends_from first 0) (sym (item_fibers-flat fs (inl f.well))) in
    let whole : ends_after first false 0 (port 0 s) ≡ ends_from first 0 (item_fibers (port 0 s)) = subst P e written in
    record {
      fits = f;
      within = omega arith;
      rest = record {
        runs = writer-run (flat Item fs) ends;
        crds_kept = ap items_in taken;
        segs_kept = ap (λ (t : List Token). 0 ∷ ends_after first false 0 t) taken ∙ ap (λ (x : List ℕ). 0 ∷ x) whole;
      };
    }
