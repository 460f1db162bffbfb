-- The entries of a statement's result fit it, so the entries of each step fit its tensors.
use Rattle.std.proofs.Common.{◌≡◌, ℕ, zero, suc, ◌+◌, ◌*◌, ◌<◌, ◌≤◌, Bool, true, false, cond, List, [], ◌∷◌, ◌++◌, length, get_or, take, drop, refl, ap, sym, ◌∙◌, arith, Some, slice_get, eqb, length-append}
use Rattle.std.specs.List.{flat_map, filter, list_all, range_with_len}
use mathlib.Core.List.{map}
use Rattle.std.proofs.lemmas.Bool.{and_parts, leb-true, ltb-true, lt-ltb, eqb-true}
use Rattle.std.proofs.lemmas.List.FromFn.{length-map-range_with_len}
use Rattle.std.proofs.Math.Nat.{mul-suc, mul-zero}
use Rattle.std.proofs.Math.Seq.{take-append_seam, drop-append_seam}
use Rattle.sam_base.specs.Each.{Each}
use Rattle.sam_model.specs.declared.tensors.Tensor.{Tensor}
use Rattle.sam_model.specs.declared.tensors.Entries.{Entries}
use Rattle.sam_model.specs.declared.program.Program.{Program}
use Rattle.sam_model.specs.Accepted.{is_dimension, is_well_formed, is_order}
use Rattle.sam_model.specs.Chains.{entries_as, and_result, StepsFollow, entries_after}
use Rattle.sam_model.specs.Lists.{below, coordinate, items_at, tuples, within}
use Rattle.sam_model.specs.Program.{accepted}
use Rattle.sam_model.specs.ResultText.{by_modes}
use Rattle.sam_model.specs.Statement.{denoted_at, in_pattern, statement_entries}
use Rattle.sam_model.specs.Tensors.{entry_list}
use Rattle.sam_model.proofs.AcceptedPrograms.{well-formed, result-formed}
use Rattle.sam_model.proofs.Lists.{Each-filter, Each-mapped, Each-weaker}
use Rattle.tns_io.proofs.FoundEntries.{all-pass, each-passes, tuples-within}
use Rattle.sam_chain.specs.Fitting.{Fits, EachFits}
use Rattle.sam_chain.specs.Running.{entries_at}

-- ---- a path by modes is below the dimensions

chosen-below : (m w c d n : ℕ) (b : Bool) → eqb m w ≡ b → (m ≡ w → c < d) → n < d → cond b c n < d
chosen-below m w c d n true e h k = h (eqb-true m w e)
chosen-below m w c d n false e h k = k

coordinate-below : (dims order x : List ℕ) (m : ℕ) → within (items_at dims order) x ≡ true → 1 ≤ get_or dims m 0 → coordinate order x m < get_or dims m 0
coordinate-below dims [] x m h d = omega (arith, d)
coordinate-below dims (w ∷ order) [] m h d = omega (arith, d)
coordinate-below dims (w ∷ order) (c ∷ x) m h d =
    let parts = and_parts _ _ h in
    let here : c < get_or dims w 0 = ltb-true _ _ parts.0 in
    chosen-below m w c (get_or dims m 0) (coordinate order x m) (eqb m w) refl
    (λ e. rw e here) (coordinate-below dims order x m parts.1 d)

dimension-some : (dims : List ℕ) (m : ℕ) → list_all is_dimension dims ≡ true → m < length dims → 1 ≤ get_or dims m 0
dimension-some [] m h less = absurd (omega (arith, less))
dimension-some (d ∷ dims) zero h less = leb-true _ _ (and_parts _ _ (and_parts _ _ h).0).0
dimension-some (d ∷ dims) (suc m) h less = dimension-some dims m (and_parts _ _ h).1 (omega (arith, less))

range-within : (f : ℕ → ℕ) (dims : List ℕ) (a : ℕ) → ((k : ℕ) → k < length dims → f (a + k) < get_or dims k 0) → within dims (map f (range_with_len a (length dims))) ≡ true
range-within f [] a h = refl
range-within f (d ∷ dims) a h =
    let same : a + 0 ≡ a = omega arith in
    let first : f a < d = rw same at (h 0 (omega arith)) in
    rw (lt-ltb (f a) d first)
    (range-within f dims (a + 1) (λ k less. let next : a + suc k ≡ (a + 1) + k = omega arith in rw next at (h (suc k) (omega (arith, less)))))

pub by-modes-within : (t : Tensor) (x : List ℕ) → is_well_formed t ≡ true → within (items_at t.dims t.order) x ≡ true → within t.dims (by_modes t.order x) ≡ true
by-modes-within t x formed h =
    let facts = well-formed t formed in
    let same : length t.order ≡ length t.dims = eqb-true _ _ (and_parts _ _ facts.order).0 in
    rw same
    (range-within (coordinate t.order x) t.dims 0
    (λ m less. let here : 0 + m ≡ m = omega arith in rw here (coordinate-below t.dims t.order x m h (dimension-some t.dims m facts.dims less))))

-- ---- rows of one length, one after another

module _ (arity : ℕ) (f : List ℕ → List ℕ) (long : (x : List ℕ) → length (f x) ≡ arity) where
  rows-taken : (xs : List (List ℕ × ℕ)) → entry_list arity (flat_map (λ (e : List ℕ × ℕ). f e.0) xs) (map (λ (e : List ℕ × ℕ). e.1) xs) ≡ map (λ (e : List ℕ × ℕ). (f e.0, e.1)) xs
  rows-taken [] = refl
  rows-taken (x ∷ xs) =
      let rest = flat_map (λ (e : List ℕ × ℕ). f e.0) xs in
      let first : take arity (f x.0 ++ rest) ≡ f x.0 = rw long at (take-append_seam (f x.0) rest) in
      let others : drop arity (f x.0 ++ rest) ≡ rest = rw long at (drop-append_seam (f x.0) rest) in
      rw (first, others, rows-taken xs) refl

  rows-long : (xs : List (List ℕ × ℕ)) → length (flat_map (λ (e : List ℕ × ℕ). f e.0) xs) ≡ arity * length (map (λ (e : List ℕ × ℕ). e.1) xs)
  rows-long [] = sym (mul-zero arity)
  rows-long (x ∷ xs) =
      let rest = flat_map (λ (e : List ℕ × ℕ). f e.0) xs in
      rw (length-append (f x.0) rest, long x.0, rows-long xs) (omega (arith, mul-suc arity (length (map (λ (e : List ℕ × ℕ). e.1) xs))))

-- ---- the entries of a result

-- what is listed below the sizes of a result's levels fits it
each-fits : (t : Tensor) (listed : List (List ℕ × ℕ)) → is_well_formed t ≡ true → Each (λ (e : List ℕ × ℕ). within (items_at t.dims t.order) e.0 ≡ true) listed → Fits t (entries_as t listed)
each-fits t listed formed inside =
    let long = λ (x : List ℕ). length-map-range_with_len (coordinate t.order x) 0 (length t.order) in
    let each : Each (λ (e : List ℕ × ℕ). within t.dims e.0 ≡ true) (map (λ (e : List ℕ × ℕ). (by_modes t.order e.0, e.1)) listed) =
    Each-mapped (λ (e : List ℕ × ℕ). within t.dims e.0 ≡ true) (λ (e : List ℕ × ℕ). (by_modes t.order e.0, e.1)) listed
    (Each-weaker (λ (e : List ℕ × ℕ). within (items_at t.dims t.order) e.0 ≡ true) (λ (e : List ℕ × ℕ). within t.dims (by_modes t.order e.0) ≡ true)
    (λ e h. by-modes-within t e.0 formed h) listed inside) in
    record {
      arity = eqb-true _ _ (and_parts _ _ (well-formed t formed).order).0;
      whole = rows-long (length t.order) (by_modes t.order) long listed;
      in_range = rw (rows-taken (length t.order) (by_modes t.order) long listed) (all-pass (λ (e : List ℕ × ℕ). within t.dims e.0) _ each);
    }

pub listed-fits : (t : Tensor) (listed : List (List ℕ × ℕ)) → is_well_formed t ≡ true → list_all (λ (e : List ℕ × ℕ). within (items_at t.dims t.order) e.0) listed ≡ true
    → Fits t (entries_as t listed)
listed-fits t listed formed inside = each-fits t listed formed (each-passes (λ (e : List ℕ × ℕ). within (items_at t.dims t.order) e.0) listed inside)

pub result-fits : (p : Program) (es : List Entries) → is_well_formed p.result ≡ true → Fits p.result (entries_as p.result (statement_entries p es))
result-fits p es formed =
    let sizes = items_at p.result.dims p.result.order in
    each-fits p.result (statement_entries p es) formed
    (Each-mapped (λ (e : List ℕ × ℕ). within sizes e.0 ≡ true) (λ x. (x, denoted_at p es x)) (filter (in_pattern p es) (tuples sizes))
    (Each-filter (λ x. within sizes x ≡ true) (in_pattern p es) (tuples sizes) (tuples-within sizes)))

-- ---- the entries of each step

fits-append : (ts : List Tensor) (es : List Entries) (t : Tensor) (e : Entries) → EachFits ts es → Fits t e → EachFits (ts ++ t ∷ []) (es ++ e ∷ [])
fits-append [] [] t e h k = (k, tt)
fits-append [] (x ∷ es) t e h k = absurd h
fits-append (s ∷ ts) [] t e h k = absurd h
fits-append (s ∷ ts) (x ∷ es) t e h k = (h.0, fits-append ts es t e h.1 k)

fits-with : (t : Tensor) (ts : List Tensor) (es : List Entries) (e : Entries) → EachFits ts es → Fits t e → EachFits (and_result t ts t) (and_result t es e)
fits-with t ts es e h k = by_case (eqb (length t.dims) 0)
  where
    by_case : (b : Bool) → EachFits (cond b ts (ts ++ t ∷ [])) (cond b es (es ++ e ∷ []))
    by_case true = h
    by_case false = fits-append ts es t e h k

-- a step is accepted, and the entries then fit its tensors
pub step-fits : (tensors : List Tensor) (steps : List Program) (es : List Entries) (n : ℕ) (p : Program) → StepsFollow tensors steps → EachFits tensors es → slice_get steps n ≡ Some p
    → (accepted p ≡ true) × EachFits p.tensors (entries_at steps es n)
step-fits tensors [] es n p follow fit e = absurd (cc)
step-fits tensors (q ∷ steps) es zero p follow fit e =
    let same : q ≡ p = cc in
    (rw same at follow.1.0, let own : q.tensors ≡ tensors = follow.0 in rw (← same, own) fit)
step-fits tensors (q ∷ steps) es (suc n) p follow fit e =
    step-fits (and_result q.result tensors q.result) steps (entries_after q es) n p follow.1.1
    (fits-with q.result tensors es (entries_as q.result (statement_entries q es)) fit (result-fits q es (result-formed q follow.1.0))) e
