-- Answers of parts are answers of the chain.
use Rattle.std.proofs.lemmas.List.{take_more, take-append-drop}
use Rattle.std.proofs.Math.Seq.{drop-cons}
use Rattle.std.proofs.Common.{◌+◌, ◌++◌, suc, take, drop, get_or, ◌∙◌, ◌≤◌, ◌<◌, ℕ, inl, inr, ap, refl, sym, subst, arith, List, [], ◌∷◌, length}
use Rattle.std.specs.Prelude.{Option, Result, Ok, Err}
use Rattle.sam_base.specs.declared.faults.Fault.{Fault}
use Rattle.sam_base.specs.declared.faults.Fault.TheVariants.{Missing, ReadFault}
use Rattle.sam_base.specs.Causes.{Rose}
use Rattle.sam_io.specs.Outside.{Told, IsAt}
use Rattle.sam_io.specs.declared.outside.Files.{Ghosts}
use Rattle.sam_io.specs.Spans.{FilesSpan, files_span, KeepsFiles}
use Rattle.parts.specs.Parts.{Part, followed, each_part}
use Rattle.parts.specs.Answers.{Counted, Comes, ComesAlways, IsRest, IsFault}
use Rattle.parts.proofs.DueLemmas.{ok_same}

-- ---- the rest of a call

-- a count that rose in the rest of a call rose in the whole of it
rose_wider : (b c n : ℕ) → b ≤ c → Rose c n → Rose b n
rose_wider b c n less rose = omega arith

module _ (whole rest : FilesSpan) (is_rest : IsRest whole rest) where
  wider : (f : Fault) → Counted rest f → Counted whole f
  wider (Missing n) rose =
      subst (Rose whole.misses_before) is_rest.misses_now
      (rose_wider whole.misses_before rest.misses_before rest.misses_now is_rest.misses rose)
  wider (ReadFault n) (rose, place) = (
    subst (Rose whole.faults_before) is_rest.faults_now
        (rose_wider whole.faults_before rest.faults_before rest.faults_now is_rest.faults rose),
    subst (IsAt n) is_rest.place place,
  )
  wider _ rose = tt

-- the whole of a call is its rest at the start
same_call : (files : FilesSpan) → IsRest files files
same_call files = record {
  told = refl;
  place = refl;
  faults = omega arith;
  faults_now = refl;
  misses = omega arith;
  misses_now = refl;
}

module _ {S : Type 0} (g : Ghosts S) (old mid new : S) where
  pub rest_of : KeepsFiles g old mid → IsRest (files_span g old new) (files_span g mid new)
  rest_of keeps = record {
    told = keeps.told;
    place = refl;
    faults = keeps.faults;
    faults_now = refl;
    misses = keeps.misses;
    misses_now = refl;
  }

  pub keeps_on : KeepsFiles g old mid → KeepsFiles g mid new → KeepsFiles g old new
  keeps_on a b =
      let faults : g.faults old ≤ g.faults new = let x = a.faults in let y = b.faults in omega arith in
      let misses : g.misses old ≤ g.misses new = let x = a.misses in let y = b.misses in omega arith in
      record { told = b.told ∙ a.told; faults = faults; misses = misses }

-- ---- one part and what follows it

module _ {A B : Type 0} (p : Part A) (q : A → Part B) where
  -- the first part was refused
  pub comes_first : (files : FilesSpan) (f : Fault) → Comes p files (Err f) → Comes (followed p q) files (Err f)
  comes_first files f (inl free) = inl free
  comes_first files f (inr (pf, counted)) = inr (inl pf, counted)

  -- the first part gave a, and what follows it gave r
  pub comes_next :
      (whole rest : FilesSpan) → IsRest whole rest → (a : A) (r : Result B Fault) → p whole.told (Ok a) → Comes (q a) rest r →
      Comes (followed p q) whole r
  comes_next whole rest is_rest a (Ok b) pa qb = (a, pa, subst (λ t. q a t (Ok b)) is_rest.told qb)
  comes_next whole rest is_rest a (Err f) pa (inl free) = inl free
  comes_next whole rest is_rest a (Err f) pa (inr (qf, counted)) =
      inr (inr (a, pa, subst (λ t. q a t (Err f)) is_rest.told qf), wider whole rest is_rest f counted)

  -- what follows looks at no file
  pub comes_then :
      (files : FilesSpan) (a : A) (r : Result B Fault) → Comes p files (Ok a) → ComesAlways (q a) r → Comes (followed p q) files r
  comes_then files a r pa qa = comes_next files files (same_call files) a r pa (qa files)

  -- the first part looked at no file
  pub comes_from :
      (files : FilesSpan) (a : A) (r : Result B Fault) → ComesAlways p (Ok a) → Comes (q a) files r → Comes (followed p q) files r
  comes_from files a r pa qa = comes_next files files (same_call files) a r (pa files) qa

  -- neither looks at a file
  pub always_first : (f : Fault) → ComesAlways p (Err f) → ComesAlways (followed p q) (Err f)
  always_first f pf = λ files. comes_first files f (pf files)

  pub always_then : (a : A) (r : Result B Fault) → ComesAlways p (Ok a) → ComesAlways (q a) r → ComesAlways (followed p q) r
  always_then a r pa qa = λ files. comes_then files a r (pa files) qa

-- ---- the parts of a list

module _ {A B : Type 0} (f : A → Part B) (told : Option Told) where
  all_more :
      (xs : List A) (x : A) (ys : List B) (y : B) → each_part f xs told (Ok ys) → f x told (Ok y) →
      each_part f (xs ++ x ∷ []) told (Ok (ys ++ y ∷ []))
  all_more [] x ys y done next = (y, next, ([], refl, ap (λ (l : List B). Ok (l ++ y ∷ [])) (ok_same ys [] done)))
  all_more (z ∷ xs) x ys y (a, fa, (zs, others, is)) next =
      (a, fa, (zs ++ y ∷ [], all_more xs x zs y others next, ap (λ (l : List B). Ok (l ++ y ∷ [])) (ok_same ys (a ∷ zs) is)))

  all_stop :
      (xs : List A) (x : A) (more : List A) (ys : List B) (e : Fault) → each_part f xs told (Ok ys) → f x told (Err e) →
      each_part f (xs ++ x ∷ more) told (Err e)
  all_stop [] x more ys e done stop = inl stop
  all_stop (z ∷ xs) x more ys e (a, fa, (zs, others, is)) stop = inr (a, fa, inl (all_stop xs x more zs e others stop))

  -- one more item, as at a step of a loop
  pub each_more :
      (xs : List A) (i : ℕ) (d : A) (ys : List B) (y : B) → i < length xs → each_part f (take i xs) told (Ok ys) →
      f (get_or xs i d) told (Ok y) → each_part f (take (i + 1) xs) told (Ok (ys ++ y ∷ []))
  each_more xs i d ys y inside done next =
      subst (λ (l : List A). each_part f l told (Ok (ys ++ y ∷ []))) (sym (take_more xs i d inside))
      (all_more (take i xs) (get_or xs i d) ys y done next)

  each_stop :
      (xs : List A) (i : ℕ) (d : A) (ys : List B) (e : Fault) → i < length xs → each_part f (take i xs) told (Ok ys) →
      f (get_or xs i d) told (Err e) → each_part f xs told (Err e)
  each_stop xs i d ys e inside done stop =
      let split = ap (λ l. take i xs ++ l) (sym (drop-cons xs i d inside)) ∙ take-append-drop i xs in
      subst (λ (l : List A). each_part f l told (Err e)) split
      (all_stop (take i xs) (get_or xs i d) (drop (suc i) xs) ys e done stop)

-- an item was refused, after those before it gave theirs
pub comes_at :
    {A B : Type 0} (f : A → Part B) (whole rest : FilesSpan) → IsRest whole rest → (xs : List A) (i : ℕ) (d : A) (ys : List B)
    (e : Fault) → i < length xs → each_part f (take i xs) whole.told (Ok ys) → Comes (f (get_or xs i d)) rest (Err e) →
    Comes (each_part f xs) whole (Err e)
comes_at f whole rest is_rest xs i d ys e inside done (inl free) = inl free
comes_at f whole rest is_rest xs i d ys e inside done (inr (stop, counted)) =
    inr (
      each_stop f whole.told xs i d ys e inside done (subst (λ t. f (get_or xs i d) t (Err e)) is_rest.told stop),
      wider whole rest is_rest e counted,
    )

-- a part refuses for this reason, or there was no memory for its name
pub always_refused :
    {A : Type 0} (p : Part A) (wanted fault : Fault) → IsFault wanted fault →
    ((files : FilesSpan) → p files.told (Err wanted) × Counted files wanted) → ComesAlways p (Err fault)
always_refused p wanted fault (inl same) refuses = λ files. subst (λ f. Comes p files (Err f)) (sym same) (inr (refuses files))
always_refused p wanted fault (inr memory) refuses = λ files. inl memory
