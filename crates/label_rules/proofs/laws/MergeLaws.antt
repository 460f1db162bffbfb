-- An intersect and a union of two levels below the same prefixes, whatever is told of them.
use Rattle.std.specs.Prelude.{◌≡◌, ◌≤◌, ℕ, suc, ◌+◌, Bool, true, false, cond, ◌&&◌, ◌||◌, List, [], ◌∷◌, ◌++◌, length, slice_index, None, refl}
use Rattle.std.specs.List.{filter}
use mathlib.Core.List.{map}
use Rattle.std.proofs.Common.{sym, ◌∙◌, ap, subst, length-append}
use Rattle.std.proofs.lemmas.List.{map-append, length-map}
use Rattle.sam_model.specs.Lists.{below}
use Rattle.stream_tokens.specs.Nest.{Leaf}
use Rattle.stream_tokens.specs.Shapes.{under, both}
use Rattle.stream_tokens.proofs.Algebra.{both-under, Positive-under, map-map}
use Rattle.block_core.specs.Ports.{Streams, AllStreams}
use Rattle.block_core.specs.Merge.{padded, side_streams, meet, unite, merged}
use Rattle.block_core.specs.Kind.{IntersectKind, UnionKind}
use Rattle.block_core.proofs.Given.{Gives, intersect-gives, union-gives}
use Rattle.stream_model.specs.Grow.{path_fibers}
use Rattle.sam_model.proofs.Lists.{map-ext}
use Rattle.stream_model.proofs.Grown.{under-same}
use Rattle.label_rules.proofs.laws.ItemStreams.{gives-same}
use Rattle.label_rules.proofs.laws.MetRanges.{head, meet-ranges}
use Rattle.label_rules.proofs.laws.UnitedRanges.{unite-ranges}
use Rattle.label_rules.proofs.laws.HeadFibers.{level-under, ascends-under, wide-under, both-streams}
use Rattle.stream_model.specs.Labels.{only_where}
use Rattle.stream_model.specs.Tellings.{Prefixes, Telling, deeper}
use Rattle.label_rules.proofs.laws.MergeSides.{side, payloads, payload-count, heads, side-is, side-flows, heads-wide, heads-ascend}

-- ---- payloads of both sides

pub payloads-both : (xs ys : List Telling) (p : List ℕ) → payloads (xs ++ ys) p ≡ payloads xs p ++ payloads ys p
payloads-both xs ys p = map-append (λ (x : Telling). x p) xs ys

-- as many payloads as are wanted stay as they are, and where there are none, each is absent
padded-payloads : (b : Bool) (xs : List Telling) (p : List ℕ) → padded (length xs) (cond b (payloads xs p) []) ≡ payloads (map (λ x. (λ q. cond b (x q) None)) xs) p
padded-payloads true [] p = refl
padded-payloads true (x ∷ xs) p = ap (λ (os : List Leaf). x p ∷ os) (padded-payloads true xs p)
padded-payloads false [] p = refl
padded-payloads false (x ∷ xs) p = ap (λ (os : List Leaf). None ∷ os) (padded-payloads false xs p)

module _ (ok P Q : List ℕ → Bool) (sizes : List ℕ) (d : ℕ) (root : ok [] ≡ true) (few : suc d ≤ 200) (xs ys : List Telling) where
  abbrev fs : Prefixes
  fs = path_fibers ok sizes d

  abbrev ins : Streams
  ins = side xs (deeper P sizes fs) ++ side ys (deeper Q sizes fs)

  ins_are : side_streams (length xs) (under (heads P sizes xs) fs) ++ side_streams (length ys) (under (heads Q sizes ys) fs) ≡ ins
  ins_are =
      ap (λ (ss : Streams). ss ++ side_streams (length ys) (under (heads Q sizes ys) fs)) (side-is P sizes xs fs)
      ∙ ap (λ (ss : Streams). side xs (deeper P sizes fs) ++ ss) (side-is Q sizes ys fs)

  all_streams : AllStreams (side_streams (length xs) (under (heads P sizes xs) fs) ++ side_streams (length ys) (under (heads Q sizes ys) fs))
  all_streams =
      subst AllStreams (sym ins_are)
      (both-streams (side xs (deeper P sizes fs)) (side ys (deeper Q sizes fs)) (side-flows ok P sizes d root few xs) (side-flows ok Q sizes d root few ys))

  -- the streams of a merged side, where its heads are these
  outs_are : (u : Bool) (own : List ℕ → Bool) (zs : List Telling) → length zs ≡ length xs + length ys
      → merged u (length xs) (length ys) [] [] ≡ []
      → ((p : List ℕ) → merged u (length xs) (length ys) (heads P sizes xs p) (heads Q sizes ys p) ≡ heads own sizes zs p)
      → side_streams (length xs + length ys) (both (merged u (length xs) (length ys)) (under (heads P sizes xs) fs) (under (heads Q sizes ys) fs))
      ≡ side zs (deeper own sizes fs)
  outs_are u own zs long none same =
      ap (side_streams (length xs + length ys))
      (both-under (merged u (length xs) (length ys)) (heads P sizes xs) (heads Q sizes ys) none fs
      ∙ under-same (λ p. merged u (length xs) (length ys) (heads P sizes xs p) (heads Q sizes ys p)) (heads own sizes zs) same fs)
      ∙ ap (λ (w : ℕ). side_streams w (under (heads own sizes zs) fs)) (sym long)
      ∙ side-is own sizes zs fs

  heads_meet : (p : List ℕ) → meet (length xs) (length ys) (heads P sizes xs p) (heads Q sizes ys p)
      ≡ heads (λ q. P q && Q q) sizes (xs ++ ys) p
  heads_meet p =
      meet-ranges (length xs) (length ys) (λ c. payloads xs (p ++ c ∷ [])) (λ c. payloads ys (p ++ c ∷ []))
      (λ c. payload-count xs (p ++ c ∷ [])) (λ c. payload-count ys (p ++ c ∷ [])) (λ c. P (p ++ c ∷ [])) (λ c. Q (p ++ c ∷ []))
      0 (slice_index sizes (length p))
      ∙ map-ext (head (λ c. payloads xs (p ++ c ∷ []) ++ payloads ys (p ++ c ∷ []))) (head (λ c. payloads (xs ++ ys) (p ++ c ∷ [])))
      (λ c. ap (λ (os : List Leaf). (c, os)) (sym (payloads-both xs ys (p ++ c ∷ []))))
      (filter (λ c. P (p ++ c ∷ []) && Q (p ++ c ∷ [])) (below (slice_index sizes (length p))))

  -- An intersect keeps what passes both tests, with all that is told.
  pub meet-law : Gives (IntersectKind (length xs) (length ys)) ins (side (xs ++ ys) (deeper (λ q. P q && Q q) sizes fs))
  meet-law =
      gives-same (IntersectKind (length xs) (length ys)) _ _ _ _ ins_are
      (outs_are false (λ q. P q && Q q) (xs ++ ys) (length-append xs ys) refl heads_meet)
      (intersect-gives (length xs) (length ys) (under (heads P sizes xs) fs) (under (heads Q sizes ys) fs)
      (Positive-under (heads P sizes xs) fs) (level-under (heads P sizes xs) (heads Q sizes ys) fs)
      (wide-under (length xs) (heads P sizes xs) (heads-wide P sizes xs) fs)
      (wide-under (length ys) (heads Q sizes ys) (heads-wide Q sizes ys) fs)
      (ascends-under (heads P sizes xs) (heads-ascend P sizes xs) fs)
      (ascends-under (heads Q sizes ys) (heads-ascend Q sizes ys) fs) all_streams)

  -- what is told of each side, where it has the prefix
  abbrev pub either_side : List Telling
  either_side = map (only_where P) xs ++ map (only_where Q) ys

  where_payloads : (R : List ℕ → Bool) (zs : List Telling) (p : List ℕ) → padded (length zs) (cond (R p) (payloads zs p) []) ≡ payloads (map (only_where R) zs) p
  where_payloads R zs p =
      padded-payloads (R p) zs p
      ∙ map-map (λ (x : Telling). x p) (λ (x : Telling). λ q. cond (R p) (x q) None) zs
      ∙ sym (map-map (λ (x : Telling). x p) (only_where R) zs)

  heads_unite : (p : List ℕ) → unite (length xs) (length ys) (heads P sizes xs p) (heads Q sizes ys p)
      ≡ heads (λ q. P q || Q q) sizes either_side p
  heads_unite p =
      unite-ranges (λ c. payloads xs (p ++ c ∷ [])) (λ c. payloads ys (p ++ c ∷ [])) (λ c. P (p ++ c ∷ [])) (λ c. Q (p ++ c ∷ []))
      (slice_index sizes (length p)) (length xs) (length ys)
      ∙ map-ext
      (head (λ c. padded (length xs) (cond (P (p ++ c ∷ [])) (payloads xs (p ++ c ∷ [])) [])
      ++ padded (length ys) (cond (Q (p ++ c ∷ [])) (payloads ys (p ++ c ∷ [])) [])))
      (head (λ c. payloads either_side (p ++ c ∷ [])))
      (λ c. ap (λ (os : List Leaf). (c, os)) (one (p ++ c ∷ [])))
      (filter (λ c. P (p ++ c ∷ []) || Q (p ++ c ∷ [])) (below (slice_index sizes (length p))))
    where
      one : (q : List ℕ) → padded (length xs) (cond (P q) (payloads xs q) []) ++ padded (length ys) (cond (Q q) (payloads ys q) [])
          ≡ payloads either_side q
      one q =
          ap (λ (os : List Leaf). os ++ padded (length ys) (cond (Q q) (payloads ys q) [])) (where_payloads P xs q)
          ∙ ap (λ (os : List Leaf). payloads (map (only_where P) xs) q ++ os) (where_payloads Q ys q)
          ∙ sym (payloads-both (map (only_where P) xs) (map (only_where Q) ys) q)

  as_many : length either_side ≡ length xs + length ys
  as_many =
      length-append (map (only_where P) xs) (map (only_where Q) ys)
      ∙ ap (λ (n : ℕ). n + length (map (only_where Q) ys)) (length-map xs (only_where P))
      ∙ ap (λ (n : ℕ). length xs + n) (length-map ys (only_where Q))

  -- A union keeps what passes either test, with all that is told of the sides that have it.
  pub unite-law : Gives (UnionKind (length xs) (length ys)) ins (side either_side (deeper (λ q. P q || Q q) sizes fs))
  unite-law =
      gives-same (UnionKind (length xs) (length ys)) _ _ _ _ ins_are
      (outs_are true (λ q. P q || Q q) either_side as_many refl heads_unite)
      (union-gives (length xs) (length ys) (under (heads P sizes xs) fs) (under (heads Q sizes ys) fs)
      (Positive-under (heads P sizes xs) fs) (level-under (heads P sizes xs) (heads Q sizes ys) fs)
      (wide-under (length xs) (heads P sizes xs) (heads-wide P sizes xs) fs)
      (wide-under (length ys) (heads Q sizes ys) (heads-wide Q sizes ys) fs)
      (ascends-under (heads P sizes xs) (heads-ascend P sizes xs) fs)
      (ascends-under (heads Q sizes ys) (heads-ascend Q sizes ys) fs) all_streams)
