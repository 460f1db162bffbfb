-- A run stands at its start, and after each step.
use Rattle.std.proofs.Common.{◌≡◌, ℕ, zero, suc, ◌+◌, ◌-◌, ◌<◌, ◌≤◌, true, false, cond, List, [], ◌∷◌, ◌++◌, length, take, refl, ap, sym, ◌∙◌, arith, Option, Some, None, slice_get, eqb}
use Rattle.std.specs.Prelude.{IfSome}
use Rattle.std.proofs.lemmas.Bool.{ne_eqb}
use Rattle.std.proofs.lemmas.List.{take-append-le, length-take}
use Rattle.sam_model.specs.declared.tensors.Tensor.{Tensor}
use Rattle.sam_model.specs.declared.tensors.Entries.{Entries}
use Rattle.sam_model.specs.declared.tensors.Written.{Written}
use Rattle.sam_model.specs.declared.program.Program.{Program}
use Rattle.sam_model.specs.Chains.{entries_as, and_result, StepsFollow, AreChained, declared_tensors, entries_after}
use Rattle.sam_model.specs.Listing.{listing}
use Rattle.sam_model.specs.Statement.{statement_entries}
use Rattle.sam_model.specs.Program.{accepted}
use Rattle.sam_chain.specs.Fitting.{EachFits}
use Rattle.sam_chain.specs.Running.{files_of, entries_behind, entries_at, Running, given, IsResult, IsResultOf, IsLast, Stands}
use Rattle.sam_chain.proofs.FitLemmas.{step-fits}

-- ---- the start

as-many : (ts : List Tensor) (es : List Entries) → EachFits ts es → length es ≡ length ts
as-many [] [] h = refl
as-many [] (e ∷ es) h = absurd h
as-many (t ∷ ts) [] h = absurd h
as-many (t ∷ ts) (e ∷ es) h = ap suc (as-many ts es h.1)

take-whole : {A : Type 0} (n : ℕ) (xs : List A) → length xs ≡ n → take n xs ≡ xs
take-whole zero [] h = refl
take-whole zero (x ∷ xs) h = absurd (omega (arith, h))
take-whole (suc n) [] h = refl
take-whole {A = A} (suc n) (x ∷ xs) h = ap (λ (t : List A). x ∷ t) (take-whole n xs (omega (arith, h)))

pub files-are : (steps : List Program) (es : List Entries) → EachFits (declared_tensors steps) es → files_of steps es ≡ es
files-are steps es h = take-whole (length (declared_tensors steps)) es (as-many (declared_tensors steps) es h)

pub stands-first : (steps : List Program) (es : List Entries) (left : ℕ) → left ≡ length steps → 1 ≤ length steps → AreChained steps → EachFits (declared_tensors steps) es
    → Stands steps es left None
stands-first steps es left all some follow fit =
    let files = files-are steps es fit in
    let none : length steps - left ≡ 0 = omega (arith, all) in
    record {
      some = some;
      few = omega (arith, all);
      follow = follow;
      fit = rw files fit;
      entries = rw (none, files) refl;
      given = rw none refl;
    }

pub first-view : (steps : List Program) (es : List Entries) (left : ℕ) → left ≡ length steps → EachFits (declared_tensors steps) es
    → ◌≡◌ {A = Running} (record { steps = steps; files = files_of steps es; step = length steps - left; last = None }) (record { steps = steps; files = es; step = 0; last = None })
first-view steps es left all fit = let none : length steps - left ≡ 0 = omega (arith, all) in rw (none, files-are steps es fit) refl

-- ---- the next step

pub next-accepted : (steps : List Program) (so_far : List Entries) (left : ℕ) (last : Option Written) (p : Program) → Stands steps so_far left last → slice_get steps (length steps - left) ≡ Some p
    → accepted p ≡ true
next-accepted steps so_far left last p now at = (step-fits (declared_tensors steps) steps (files_of steps so_far) (length steps - left) p now.follow now.fit at).0

pub next-fits : (steps : List Program) (so_far : List Entries) (left : ℕ) (last : Option Written) → Stands steps so_far left last
    → IfSome (slice_get steps (length steps - left)) (λ p. EachFits p.tensors so_far)
next-fits steps so_far left last now = by_case (slice_get steps (length steps - left)) refl
  where
    by_case : (o : Option Program) → slice_get steps (length steps - left) ≡ o → IfSome o (λ p. EachFits p.tensors so_far)
    by_case None e = tt
    by_case (Some p) e = rw now.entries (step-fits (declared_tensors steps) steps (files_of steps so_far) (length steps - left) p now.follow now.fit e).1

-- ---- one step on

pub entries-next : (steps : List Program) (es : List Entries) (n : ℕ) (p : Program) → slice_get steps n ≡ Some p
    → entries_at steps es (suc n) ≡ entries_after p (entries_at steps es n)
entries-next [] es n p e = absurd (cc)
entries-next (q ∷ steps) es zero p e = let same : q ≡ p = cc in ap (λ (r : Program). entries_after r es) same
entries-next (q ∷ steps) es (suc n) p e = entries-next steps (entries_after q es) n p e

files-kept-by : (k : ℕ) (t : Tensor) (xs : List Entries) (x : Entries) → k ≤ length xs → take k (and_result t xs x) ≡ take k xs
files-kept-by k t xs x h = by_case (eqb (length t.dims) 0)
  where
    by_case : (b : _) → take k (cond b xs (xs ++ x ∷ [])) ≡ take k xs
    by_case true = refl
    by_case false = take-append-le k xs (x ∷ []) h

enough : (ts : List Tensor) (es : List Entries) → EachFits ts (take (length ts) es) → length ts ≤ length es
enough ts es h = let same = as-many ts (take (length ts) es) h in let most = length-take (length ts) es in omega (arith, same, most)

-- a run goes on to these entries with a result
pub record GoesOn (steps : List Program) (so_far more : List Entries) (left : ℕ) (last : Option Written) (w : Written) : Type 0 where
  pub stands : Stands steps more (left - 1) (Some w)
  pub view :
      ◌≡◌ {A = Running} (record { steps = steps; files = files_of steps more; step = length steps - (left - 1); last = Some w })
      (given (record { steps = steps; files = files_of steps so_far; step = length steps - left; last = last }) w)

module _ (steps : List Program) (so_far : List Entries) (left : ℕ) (last : Option Written) (p : Program) (now : Stands steps so_far left last)
    (at : slice_get steps (length steps - left) ≡ Some p) (w : Written) (below : length steps - left < length steps)
    (tensor : IsResultOf steps (files_of steps so_far) (length steps - left) w) where
  abbrev files : List Entries
  files = files_of steps so_far

  abbrev after : List Entries
  after = entries_after p so_far

  files-kept : files_of steps after ≡ files
  files-kept = files-kept-by (length (declared_tensors steps)) p.result so_far _ (enough (declared_tensors steps) so_far now.fit)

  -- what the result of this step is
  this-result : IsResult p so_far w
  this-result = let here : IsResult p (entries_at steps files (length steps - left)) w = rw at at tensor in rw now.entries here

  -- where the entries are those of the next step
  goes-on : (more : List Entries) → more ≡ after → GoesOn steps so_far more left last w
  goes-on more same =
      let next : length steps - (left - 1) ≡ suc (length steps - left) = omega (arith, now.few, below) in
      let one : suc (length steps - left) ≡ (length steps - left) + 1 = omega arith in
      rw same (record {
        stands = record {
          some = now.some;
          few = omega (arith, now.few);
          follow = now.follow;
          fit = rw files-kept now.fit;
          entries = rw (files-kept, next, entries-next steps files (length steps - left) p at) (ap (entries_after p) now.entries);
          given = rw (files-kept, next) tensor;
        };
        view = rw (files-kept, next, one) refl;
      })

  -- a result with dimensions is appended
  pub goes-on-with : (e : Entries) (more : List Entries) → 0 < length p.result.dims → e ≡ entries_as p.result (listing w) → more ≡ so_far ++ e ∷ []
      → GoesOn steps so_far more left last w
  goes-on-with e more some same pushed =
      let no : eqb (length p.result.dims) 0 ≡ false = ne_eqb _ _ (λ z. omega (arith, some, z)) in
      goes-on more (rw (pushed, no, same, this-result.listed) refl)

  -- and another is left out
  pub goes-on-without : length p.result.dims ≤ 0 → GoesOn steps so_far so_far left last w
  goes-on-without none = let no : length p.result.dims ≡ 0 = omega (arith, none) in goes-on so_far (rw no refl)

-- ---- the end

pub last-some : (steps : List Program) (files : List Entries) (n : ℕ) → 1 ≤ n → IsLast steps files n None → ⊥
last-some steps files zero h k = omega (arith, h)
last-some steps files (suc n) h k = k

pub last-is : (steps : List Program) (files : List Entries) (n : ℕ) (w : Written) → 1 ≤ n → IsLast steps files n (Some w) → IsResultOf steps files (n - 1) w
last-is steps files zero w h k = absurd (omega (arith, h))
last-is steps files (suc n) w h k = let one : suc n - 1 ≡ n = omega arith in rw one k
