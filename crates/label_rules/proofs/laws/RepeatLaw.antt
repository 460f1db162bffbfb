-- A repeat tells of each longer prefix what was told of the prefix.
use Rattle.std.specs.Prelude.{◌≡◌, ◌≤◌, ◌<◌, ℕ, suc, Bool, true, List, [], ◌∷◌, ◌++◌, length, slice_index, false, cond, get_or, Some, None, refl}
use mathlib.Core.List.{map}
use Rattle.std.proofs.Common.{arith, sym, ◌∙◌, ap, subst}
use Rattle.stream_tokens.specs.declared.Token.{Token}
use Rattle.stream_tokens.specs.declared.Token.TheVariants.{Item}
use Rattle.stream_tokens.specs.Nest.{leaf}
use Rattle.stream_tokens.specs.Flat.{flat}
use Rattle.stream_tokens.specs.Shapes.{under}
use Rattle.stream_tokens.proofs.Algebra.{under-ext}
use Rattle.block_core.specs.Ports.{AllStreams}
use Rattle.block_core.specs.Kind.{RepeatKind}
use Rattle.block_core.proofs.Given.{Gives, repeat-over}
use Rattle.stream_model.specs.Grow.{next, path_fibers}
use Rattle.sam_model.proofs.Lists.{map-ext-each}
use Rattle.stream_model.proofs.Grown.{InTree, paths-InTree, each-next}
use Rattle.label_rules.proofs.laws.ItemStreams.{gives-same}
use Rattle.label_rules.proofs.laws.Following.{paths-shaped}
use Rattle.stream_model.specs.Tellings.{Prefixes, Telling, told, deeper, coordinate}
use Rattle.stream_model.proofs.Levels.{coordinates-deeper, told-deeper, told-flows, deeper-flows}
use Rattle.stream_model.specs.declared.labels.Attr.TheVariants.{Coordinate, Rank}
use Rattle.stream_model.specs.Masks.{final}
use Rattle.stream_model.specs.Terms.{TermData, access_at}
use Rattle.stream_model.specs.Trees.{in_whole, in_product}
use Rattle.stream_model.specs.Labels.{loop_sizes, only_where}
use Rattle.sam_model.specs.Tensors.{rank_of}
use Rattle.std.proofs.lemmas.Bool.{and_parts}
use Rattle.stream_model.proofs.Prefixes.{restricted-lacks}
use Rattle.stream_model.proofs.Products.{product-longer}
use Rattle.label_rules.proofs.laws.ProductTrees.{product_stream, product-beneath, product-final}
use Rattle.label_rules.proofs.laws.ScanLaw.{ranks}

pub repeat-law : (ok own : List ℕ → Bool) (sizes : List ℕ) (d : ℕ) (x y : Telling) → ok [] ≡ true → suc d ≤ 200
    → ((p : List ℕ) (c : ℕ) → length p ≡ d → own (p ++ c ∷ []) ≡ true → y (p ++ c ∷ []) ≡ x p)
    → Gives RepeatKind
    (told coordinate (deeper own sizes (path_fibers ok sizes d)) ∷ told x (path_fibers ok sizes d) ∷ [])
    (told y (deeper own sizes (path_fibers ok sizes d)) ∷ [])
repeat-law ok own sizes d x y root h same =
    gives-same RepeatKind _ _ _ _ ins_are outs_are
    (repeat-over x (next own sizes) fs (paths-shaped ok sizes d)
    (subst AllStreams (sym ins_are)
    (deeper-flows coordinate ok own sizes d root h, (told-flows x ok sizes d (omega (arith, h)), tt))))
  where
    fs : Prefixes
    fs = path_fibers ok sizes d

    ins_are : flat Item (under (next own sizes) fs) ∷ told x fs ∷ [] ≡ told coordinate (deeper own sizes fs) ∷ told x fs ∷ []
    ins_are = ap (λ (s : List Token). s ∷ told x fs ∷ []) (sym (coordinates-deeper own sizes fs))

    outs_are : flat leaf (under (λ p. map (λ _. x p) (next own sizes p)) fs) ∷ [] ≡ told y (deeper own sizes fs) ∷ []
    outs_are =
        ap (λ (s : List Token). s ∷ [])
        (sym (told-deeper y own sizes fs
        ∙ ap (flat leaf)
        (under-ext (InTree ok sizes d) (λ p. map (λ c. y (p ++ c ∷ [])) (next own sizes p)) (λ p. map (λ _. x p) (next own sizes p))
        (λ p i.
        map-ext-each (λ c. (own (p ++ c ∷ []) ≡ true) × (c < slice_index sizes (length p))) (λ c. y (p ++ c ∷ [])) (λ _. x p)
        (λ c e. same p c i.count e.0) (next own sizes p) (each-next own sizes p)) fs (paths-InTree ok sizes root d))))

-- ---- in product trees

-- where access f lacks the next loop, its ranks are repeated over the loop's final coordinates
pub repeat-gives : (t : TermData) (f d : ℕ) → suc d ≤ 200 → get_or (access_at t.accesses f).has d false ≡ false
    → Gives RepeatKind
    (product_stream t (suc d) (final t (suc d)) Coordinate ∷ product_stream t d (final t d) (Rank f) ∷ [])
    (product_stream t (suc d) (final t (suc d)) (Rank f) ∷ [])
repeat-gives t f d h lacks =
    gives-same RepeatKind _ _ _ _
    (rw (product-beneath t d (final t (suc d)) Coordinate, product-final t d (Rank f) (ranks t f) (λ p. refl)) refl)
    (rw (product-beneath t d (final t (suc d)) (Rank f)) refl)
    (repeat-law (in_whole t) (in_product t (suc d) (final t (suc d))) (loop_sizes t.loops) d (only_where (in_whole t) (ranks t f))
    (ranks t f) refl h same)
  where
    same : (p : List ℕ) (c : ℕ) → length p ≡ d → in_product t (suc d) (final t (suc d)) (p ++ c ∷ []) ≡ true
        → ranks t f (p ++ c ∷ []) ≡ only_where (in_whole t) (ranks t f) p
    same p c count e =
        ap (λ (u : List ℕ). Some (rank_of (access_at t.accesses f).tensor u))
        (restricted-lacks (access_at t.accesses f) p c (ap (λ (n : ℕ). get_or (access_at t.accesses f).has n false) count ∙ lacks))
        ∙ ap (λ b. cond b (ranks t f p) None)
        (sym (and_parts (in_whole t p) _ (sym (product-longer t d (final t (suc d)) p c count) ∙ e)).0)
