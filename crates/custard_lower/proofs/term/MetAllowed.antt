-- An intersecter of a level meets its rule: what the rule reads off the labels is what they were made of.
use Rattle.std.specs.Prelude.{◌≡◌, ◌<◌, ℕ, suc, ◌^◌, true, List, [], ◌∷◌, ◌++◌, length, take, drop, get_or, eqb, ltb, refl}
use Rattle.std.specs.Int.Bits.{bit_or, or_zero_l}
use mathlib.Core.List.{map}
use Rattle.std.proofs.Common.{arith, sym, ◌∙◌, ap, subst, inl}
use Rattle.std.proofs.lemmas.Bool.Decides.{nat_tests}
use Rattle.std.proofs.lemmas.List.{length-map}
use Rattle.std.proofs.Math.Seq.{take-append_seam}
use lib.Seq.{get_or-append_seam}
use Rattle.stream_tokens.proofs.Algebra.{map-map, map-same}
use Rattle.sam_model.specs.declared.program.Program.{Program}
use Rattle.stream_model.specs.declared.labels.Attr.TheVariants.{Coordinate, Rank}
use Rattle.stream_model.specs.declared.labels.Label.{Label}
use Rattle.graph.specs.declared.graphs.Kind.TheVariants as kind
use Rattle.stream_model.specs.declared.labels.Tree.{Tree}
use Rattle.stream_model.specs.declared.labels.Tree.TheVariants.{Product}
use Rattle.label_rules.specs.Labels.{no_label, tree_label, PortsAllow, just_these}
use Rattle.label_rules.specs.Named.{attr_numbers, tree_mask}
use Rattle.label_rules.specs.Masks.{mask_with, factors_mask}
use Rattle.label_rules.specs.TermLabels.{met_labels}
use Rattle.label_rules.specs.Rules.{Allowed}

with_more : (m : ℕ) (fs gs : List ℕ) → mask_with m (fs ++ gs) ≡ mask_with (mask_with m fs) gs
with_more m [] gs = refl
with_more m (f ∷ fs) gs = with_more (bit_or m (2 ^ f)) fs gs

-- one factor more is one bit more
both_masks : (fs : List ℕ) (f : ℕ) → factors_mask (fs ++ f ∷ []) ≡ bit_or (factors_mask fs) (factors_mask (f ∷ []))
both_masks fs f = with_more 0 fs (f ∷ []) ∙ ap (bit_or (factors_mask fs)) (sym (or_zero_l (2 ^ f)))

-- labels may stand where just they may
pub just-these-self : (ls : List Label) → PortsAllow (just_these ls) ls
just-these-self [] = tt
just-these-self (l ∷ ls) = (inl refl, just-these-self ls)

dropped : (ls ks : List Label) → drop (length ls) (ls ++ ks) ≡ ks
dropped [] ks = refl
dropped (l ∷ ls) ks = dropped ls ks

-- whichever trees have the masks
module _ (tree : ℕ → Tree) (mask_of : Tree → ℕ) (back : (m : ℕ) → mask_of (tree m) ≡ m) (fs : List ℕ) (f : ℕ) where
  -- the coordinates and the references of some factors
  abbrev pub side : ℕ → List ℕ → List Label
  side m ks = tree_label (tree m) Coordinate ∷ map (λ k. tree_label (tree m) (Rank k)) ks

  abbrev ranked : List Label
  ranked = map (λ k. tree_label (tree (factors_mask fs)) (Rank k)) fs

  abbrev right : List Label
  right = side (factors_mask (f ∷ [])) (f ∷ [])

  many : length ranked ≡ length fs
  many = length-map fs (λ k. tree_label (tree (factors_mask fs)) (Rank k))

  -- what a rule reads off their labels: the factors of both sides, and the mask on the right
  abbrev pub these_read : List ℕ
  these_read = attr_numbers (take (length fs) (ranked ++ right))

  abbrev pub those_read : List ℕ
  those_read = attr_numbers (drop 1 (drop (length fs) (ranked ++ right)))

  abbrev pub mask_read : ℕ
  mask_read = mask_of (get_or (ranked ++ right) (length fs) no_label).tree

  pub these-are : these_read ≡ fs
  these-are =
      ap (λ (n : ℕ). attr_numbers (take n (ranked ++ right))) (sym many)
      ∙ ap attr_numbers (take-append_seam ranked right)
      ∙ map-map _ (λ k. tree_label (tree (factors_mask fs)) (Rank k)) fs
      ∙ map-same fs

  pub those-are : those_read ≡ f ∷ []
  those-are = ap (λ (n : ℕ). attr_numbers (drop 1 (drop n (ranked ++ right)))) (sym many) ∙ ap (λ (ls : List Label). attr_numbers (drop 1 ls)) (dropped ranked right)

  mask_is : mask_read ≡ factors_mask (f ∷ [])
  mask_is =
      ap (λ (n : ℕ). mask_of (get_or (ranked ++ right) n no_label).tree) (sym many)
      ∙ ap (λ (l : Label). mask_of l.tree) (get_or-append_seam ranked (tree_label (tree (factors_mask (f ∷ []))) Coordinate)
      (tree_label (tree (factors_mask (f ∷ []))) (Rank f) ∷ []) no_label)
      ∙ back (factors_mask (f ∷ []))

  pub ins-met : PortsAllow (just_these (side (factors_mask fs) these_read ++ side mask_read those_read)) (side (factors_mask fs) fs ++ right)
  ins-met =
      subst (λ (xs : List Label). PortsAllow (just_these xs) (side (factors_mask fs) fs ++ right))
      (sym
      (ap (λ (ks : List ℕ). side (factors_mask fs) ks ++ side mask_read those_read) these-are
      ∙ ap (λ (n : ℕ). side (factors_mask fs) fs ++ side n those_read) mask_is
      ∙ ap (λ (ks : List ℕ). side (factors_mask fs) fs ++ side (factors_mask (f ∷ [])) ks) those-are))
      (just-these-self (side (factors_mask fs) fs ++ right))

  pub outs-met : side (factors_mask (fs ++ f ∷ [])) (fs ++ f ∷ []) ≡ side (bit_or (factors_mask fs) mask_read) (these_read ++ those_read)
  outs-met =
      sym
      (ap (λ (ks : List ℕ). side (bit_or (factors_mask fs) mask_read) (ks ++ those_read)) these-are
      ∙ ap (λ (n : ℕ). side (bit_or (factors_mask fs) n) (fs ++ those_read)) mask_is
      ∙ ap (λ (ks : List ℕ). side (bit_or (factors_mask fs) (factors_mask (f ∷ []))) (fs ++ ks)) those-are
      ∙ ap (λ (n : ℕ). side n (fs ++ f ∷ [])) (sym (both_masks fs f)))

-- what is met of a term with one factor more
pub met-allowed : (p : Program) (t : ℕ) → t < length p.terms → (d : ℕ) (fs : List ℕ) (f : ℕ)
    → Allowed p (kind.Intersect (length fs) 1)
    (met_labels p t (suc d) (factors_mask fs) fs ++ met_labels p t (suc d) (factors_mask (f ∷ [])) (f ∷ []))
    (met_labels p t (suc d) (factors_mask (fs ++ f ∷ [])) (fs ++ f ∷ []))
met-allowed p t inside d fs f =
    let tree : ℕ → Tree = λ m. Product t (suc d) m in
    let a : ltb t (length p.terms) ≡ true = grind (arith, nat_tests, inside) in
    let b : eqb (length fs) (length fs) ≡ true = grind (arith, nat_tests) in
    record {
      holds = rw (a, these-are tree tree_mask (λ m. refl) fs f, those-are tree tree_mask (λ m. refl) fs f, b) refl;
      ins_are = ins-met tree tree_mask (λ m. refl) fs f;
      outs_are = outs-met tree tree_mask (λ m. refl) fs f;
    }
