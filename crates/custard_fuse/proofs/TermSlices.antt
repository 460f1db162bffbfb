-- Terms one by one: the first of a list, and the others, with the slices that code has of them.
use Rattle.std.specs.Prelude.{◌≡◌, ◌≤◌, ℕ, zero, suc, ◌+◌, ◌-◌, List, [], ◌∷◌, ◌++◌, length, get_or, take, drop, slice_get, Some}
use Rattle.std.specs.List.{range_with_len}
use Rattle.std.proofs.Common.{arith, sym, ◌∙◌, ap, subst, add-one, length-append}
use Rattle.std.proofs.lemmas.List.{drop_more, take_rest, length-take-le}
use Rattle.std.proofs.lemmas.Option.{get_or_from_slice_get}
use Rattle.sam_model.specs.declared.program.Term.{Term}
use Rattle.sam_model.specs.declared.program.Program.{Program}
use Rattle.label_rules.specs.declared.plans.Plan.{Plan}
use Rattle.label_rules.specs.TermLabels.{empty_term}
use Rattle.custard_lower.specs.declared.drafts.Made.{Made}
use Rattle.custard_lower.specs.declared.nests.Nest.{Nest}
use Rattle.custard_lower.specs.declared.reductions.Levels.{Levels}
use Rattle.custard_lower.specs.declared.trees.TermTrees.TheVariants.{Shared}
use Rattle.custard_lower.specs.Nests.{level}
use Rattle.custard_lower.proofs.term.Nesting.{references_kept}
use Rattle.custard_lower.specs.Drafts.{outputs_of}
use Rattle.custard_fuse.specs.Sharing.{factors, all_factors, scanned_term, scanned_terms, union, united}
use Rattle.custard_fuse.specs.Fusing.{added_term, added_terms}

-- ---- terms before a number, and from it on

rest_after : (ts : List Plan) (e : ℕ) (t : Plan) (others : List Plan) → t ∷ others ≡ drop e ts → others ≡ drop (suc e) ts
rest_after [] zero t others x = absurd (cc)
rest_after [] (suc e) t others x = absurd (cc)
rest_after (u ∷ ts) zero t others x = cc
rest_after (u ∷ ts) (suc e) t others x = rest_after ts e t others x

factors_after : (ts : List Plan) (e : ℕ) (t : Plan) (others : List Plan) → t ∷ others ≡ drop e ts
    → all_factors (take (suc e) ts) ≡ all_factors (take e ts) + factors t
factors_after [] zero t others x = absurd (cc)
factors_after [] (suc e) t others x = absurd (cc)
factors_after (u ∷ ts) zero t others x = let one : t ≡ u = cc in let same : factors t ≡ factors u = ap (λ (v : Plan). factors v) one in omega (arith, same)
factors_after (u ∷ ts) (suc e) t others x = let r = factors_after ts e t others x in omega (arith, r)

-- the terms after number e
pub rest_next : (ts : List Plan) (e : ℕ) (t : Plan) (others : List Plan) → t ∷ others ≡ drop e ts → others ≡ drop (e + 1) ts
rest_next ts e t others x = rw add-one (rest_after ts e t others x)

-- the factors of the terms before number e, and its own
pub factors_next : (ts : List Plan) (e : ℕ) (t : Plan) (others : List Plan) → t ∷ others ≡ drop e ts
    → all_factors (take (e + 1) ts) ≡ all_factors (take e ts) + factors t
factors_next ts e t others x = rw add-one (factors_after ts e t others x)

-- and those of the others
pub factors_apart : (ts : List Plan) (e : ℕ) → all_factors (take e ts) + all_factors (drop e ts) ≡ all_factors ts
factors_apart ts zero = omega arith
factors_apart [] (suc e) = omega arith
factors_apart (t ∷ ts) (suc e) = let r = factors_apart ts e in omega (arith, r)

-- ---- slices of lists of terms

-- the first term and the others
pub first_and_others : (ts : List Plan) (t : Plan) → 1 ≤ length ts → t ≡ get_or ts 0 t → ts ≡ t ∷ drop 1 ts
first_and_others ts t some is = drop_more ts 0 t (omega (arith, some)) ∙ ap (λ (u : Plan). u ∷ drop 1 ts) (sym is)

abbrev nest_of : List Made → List ℕ → List ℕ → Nest
nest_of made coordinates references = record { made = made; coordinates = coordinates; references = references }

pub same_nest : (n : Nest) (made : List Made) (coordinates references : List ℕ)
    → n.made ≡ made → n.coordinates ≡ coordinates → n.references ≡ references
    → n ≡ record { made = made; coordinates = coordinates; references = references }
same_nest n made coordinates references x y z =
    ap (λ (m : List Made). nest_of m n.coordinates n.references) x
    ∙ ap (λ (cs : List ℕ). nest_of made cs n.references) y
    ∙ ap (λ (rs : List ℕ). nest_of made coordinates rs) z

-- the references of the terms before number e, with its own
pub met_counted : (plans : List Plan) (e : ℕ) (ts : List Plan) (t : Plan) (k : ℕ) (ws rs : List ℕ) → 1 ≤ length ts → t ≡ get_or ts 0 t
    → k ≡ factors t → ts ≡ drop e plans → length ws ≡ all_factors (take e plans) → length rs ≡ all_factors ts
    → length ws + length (take k rs) ≡ all_factors (take (e + 1) plans)
met_counted plans e ts t k ws rs some is count rest met own =
    let parts = first_and_others ts t some is in
    let next = factors_next plans e t (drop 1 ts) (sym parts ∙ rest) in
    let all = ap all_factors parts in
    let taken = length-take-le k rs (omega (arith, own, all, count)) in
    omega (arith, met, next, count, taken)

module _ (last levels d n : ℕ) (ts : List Plan) (t : Plan) (rs : List ℕ) (s more : Nest) (some : 1 ≤ length ts) (is : t ≡ get_or ts 0 t) where
  abbrev Scans : ℕ → Type 0
  Scans k =
      more ≡ scanned_term last levels d n t (take k rs) s
      → scanned_terms last levels d (n + 1) (take (length ts - 1) (drop 1 ts)) (take (length rs - k) (drop k rs)) more
      ≡ scanned_terms last levels d n ts rs s

  scans : Scans (factors t)
  scans x =
      let k = factors t in
      let others = take (length ts - 1) (drop 1 ts) in
      let met = take (length rs - k) (drop k rs) in
      ap (λ (i : ℕ). scanned_terms last levels d i others met more) (add-one n)
      ∙ ap (λ (xs : List Plan). scanned_terms last levels d (suc n) xs met more) (take_rest ts 1)
      ∙ ap (λ (xs : List ℕ). scanned_terms last levels d (suc n) (drop 1 ts) xs more) (take_rest rs k)
      ∙ ap (λ (i : Nest). scanned_terms last levels d (suc n) (drop 1 ts) (drop k rs) i) x
      ∙ sym (ap (λ (xs : List Plan). scanned_terms last levels d n xs rs s) (first_and_others ts t some is))

  -- the others after one term that scanned
  pub scanned_more : (k : ℕ) → k ≡ factors t → Scans k
  scanned_more k same = subst Scans (sym same) scans

-- a term that scans adds its references
pub scanned_so : (last levels d n : ℕ) (t : Plan) (rs : List ℕ) (s more : Nest) → more ≡ scanned_term last levels d n t rs s
    → length more.references ≡ length s.references + length rs
scanned_so last levels d n t rs s more x =
    let start = nest_of s.made [] rs in
    ap (λ (one : Nest). length one.references) x
    ∙ length-append s.references (level (Shared n last levels) t d start).references
    ∙ ap (λ (k : ℕ). length s.references + k) (references_kept (Shared n last levels) t d start)

module _ (plans : List Plan) (d e : ℕ) (ts : List Plan) (t : Plan) (cs rs : List ℕ) (u more : Nest) (some : 1 ≤ length ts) (is : t ≡ get_or ts 0 t) where
  abbrev Unites : ℕ → Type 0
  Unites k =
      more.made ≡ u.made ++ union plans d e u (get_or cs 0 0) (take k rs) ∷ []
      → more.coordinates ≡ outputs_of u.made ∷ []
      → more.references ≡ range_with_len (suc (outputs_of u.made)) (length u.references + length (take k rs))
      → united plans d (e + 1) (take (length ts - 1) (drop 1 ts)) (take (length cs - 1) (drop 1 cs)) (take (length rs - k) (drop k rs)) more
      ≡ united plans d e ts cs rs u

  unites : Unites (factors t)
  unites x y z =
      let k = factors t in
      let others = take (length ts - 1) (drop 1 ts) in
      let tops = take (length cs - 1) (drop 1 cs) in
      let met = take (length rs - k) (drop k rs) in
      ap (λ (n : ℕ). united plans d n others tops met more) (add-one e)
      ∙ ap (λ (xs : List Plan). united plans d (suc e) xs tops met more) (take_rest ts 1)
      ∙ ap (λ (xs : List ℕ). united plans d (suc e) (drop 1 ts) xs met more) (take_rest cs 1)
      ∙ ap (λ (xs : List ℕ). united plans d (suc e) (drop 1 ts) (drop 1 cs) xs more) (take_rest rs k)
      ∙ ap (λ (n : Nest). united plans d (suc e) (drop 1 ts) (drop 1 cs) (drop k rs) n)
      (same_nest more (u.made ++ union plans d e u (get_or cs 0 0) (take k rs) ∷ []) (outputs_of u.made ∷ [])
      (range_with_len (suc (outputs_of u.made)) (length u.references + length (take k rs))) x y z)
      ∙ sym (ap (λ (xs : List Plan). united plans d e xs cs rs u) (first_and_others ts t some is))

  -- the others united after one term more
  pub united_more : (k : ℕ) → k ≡ factors t → Unites k
  united_more k same = subst Unites (sym same) unites

-- ---- terms that are added

pub minus_is : (ts : List Term) (n : ℕ) (t : Term) → slice_get ts n ≡ Some t → (get_or ts n empty_term).minus ≡ t.minus
minus_is ts n t e = ap (λ (u : Term). u.minus) (get_or_from_slice_get ts n t empty_term e)

module _ (last levels : ℕ) (p : Program) (ts : List Plan) (t : Plan) (rs : List ℕ) (some : 1 ≤ length ts) (is : t ≡ get_or ts 0 t) where
  abbrev Adds : ℕ → Levels → Levels → ℕ → Type 0
  Adds n l more k =
      more ≡ added_term last levels p n t (take k rs) l
      → added_terms last levels p (n + 1) (take (length ts - 1) (drop 1 ts)) (take (length rs - k) (drop k rs)) more
      ≡ added_terms last levels p n ts rs l

  adds : (n : ℕ) (l more : Levels) → Adds n l more (factors t)
  adds n l more x =
      let k = factors t in
      let others = take (length ts - 1) (drop 1 ts) in
      let met = take (length rs - k) (drop k rs) in
      ap (λ (i : ℕ). added_terms last levels p i others met more) (add-one n)
      ∙ ap (λ (xs : List Plan). added_terms last levels p (suc n) xs met more) (take_rest ts 1)
      ∙ ap (λ (xs : List ℕ). added_terms last levels p (suc n) (drop 1 ts) xs more) (take_rest rs k)
      ∙ ap (λ (i : Levels). added_terms last levels p (suc n) (drop 1 ts) (drop k rs) i) x
      ∙ sym (ap (λ (xs : List Plan). added_terms last levels p n xs rs l) (first_and_others ts t some is))

  -- the others after one term that is added
  pub added_more : (n : ℕ) (l more : Levels) (k : ℕ) → k ≡ factors t → Adds n l more k
  added_more n l more k same = subst (Adds n l more) (sym same) (adds n l more)
