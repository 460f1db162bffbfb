-- Over a told map at most one answer of a part is due, and it is the one that is given.
use Rattle.std.proofs.Common.{◌≡◌, ◌∙◌, ◌≤◌, ◌<◌, ℕ, inl, inr, ap, refl, sym, subst, arith, List, [], ◌∷◌, length}
use Rattle.std.specs.Prelude.{◌⊎◌, Option, Some, None, Result, Ok, Err, IsSomeAnd}
use Rattle.sam_base.specs.declared.faults.Fault.{Fault}
use Rattle.sam_base.specs.declared.faults.Fault.TheVariants.{Missing, ReadFault, OutOfMemory}
use Rattle.sam_base.specs.declared.TheConstants.{FILE_MOST}
use Rattle.sam_io.specs.Outside.{Told, Tells, Lacks, LongerThan}
use Rattle.sam_io.specs.Spans.{FilesSpan}
use Rattle.parts.specs.Parts.{Part, gives, followed, each_part, reads}
use Rattle.parts.specs.Answers.{Counted, Comes, IsDecided, IsDue, AtMostOne, Settles}

-- ---- chains

pub one_gives : {A : Type 0} (r : Result A Fault) → AtMostOne (gives r)
one_gives r m s t due other is so = is ∙ sym so

pub ok_same : {A : Type 0} (a b : A) → ◌≡◌ {A = Result A Fault} (Ok a) (Ok b) → a ≡ b
ok_same a b e = cc

no_mix : {A C : Type 0} (a : A) (f : Fault) → ◌≡◌ {A = Result A Fault} (Ok a) (Err f) → C
no_mix a f e = cc

err_in : {A B : Type 0} (e f : Fault) → ◌≡◌ {A = Result A Fault} (Err e) (Err f) → ◌≡◌ {A = Result B Fault} (Err e) (Err f)
err_in e f same = cc

module _ {A B : Type 0} (p : Part A) (q : A → Part B) (one : AtMostOne p) (other : (a : A) → AtMostOne (q a)) where
  -- both come after the first part
  after :
      (m : Told) (r s : Result B Fault) (a b : A) → IsDue r → IsDue s → p (Some m) (Ok a) → p (Some m) (Ok b) →
      q a (Some m) r → q b (Some m) s → r ≡ s
  after m r s a b dr ds pa pb qa qb =
      let same : a ≡ b = ok_same a b (one m (Ok a) (Ok b) tt tt pa pb) in
      other a m r s dr ds qa (subst (λ x. q x (Some m) s) (sym same) qb)

  pub one_followed : AtMostOne (followed p q)
  one_followed m (Ok c) (Ok d) dr ds (a, pa, qa) (b, pb, qb) = after m (Ok c) (Ok d) a b dr ds pa pb qa qb
  one_followed m (Ok c) (Err f) dr ds (a, pa, qa) (inl pf) = no_mix a f (one m (Ok a) (Err f) tt ds pa pf)
  one_followed m (Ok c) (Err f) dr ds (a, pa, qa) (inr (b, pb, qb)) = after m (Ok c) (Err f) a b dr ds pa pb qa qb
  one_followed m (Err e) (Ok d) dr ds (inl pe) (b, pb, qb) = no_mix b e (one m (Ok b) (Err e) tt dr pb pe)
  one_followed m (Err e) (Ok d) dr ds (inr (a, pa, qa)) (b, pb, qb) = after m (Err e) (Ok d) a b dr ds pa pb qa qb
  one_followed m (Err e) (Err f) dr ds (inl pe) (inl pf) = err_in e f (one m (Err e) (Err f) dr ds pe pf)
  one_followed m (Err e) (Err f) dr ds (inl pe) (inr (b, pb, qb)) = no_mix b e (one m (Ok b) (Err e) tt dr pb pe)
  one_followed m (Err e) (Err f) dr ds (inr (a, pa, qa)) (inl pf) = no_mix a f (one m (Ok a) (Err f) tt ds pa pf)
  one_followed m (Err e) (Err f) dr ds (inr (a, pa, qa)) (inr (b, pb, qb)) = after m (Err e) (Err f) a b dr ds pa pb qa qb

pub one_each :
    {A B : Type 0} (f : A → Part B) → ((x : A) → AtMostOne (f x)) → (xs : List A) → AtMostOne (each_part f xs)
one_each f one [] = one_gives (Ok [])
one_each f one (x ∷ xs) =
    one_followed (f x) (λ y. followed (each_part f xs) (λ ys. gives (Ok (y ∷ ys)))) (one x)
    (λ y. one_followed (each_part f xs) (λ ys. gives (Ok (y ∷ ys))) (one_each f one xs) (λ ys. one_gives (Ok (y ∷ ys))))

-- ---- one file

some_same : {A : Type 0} (x y : A) → ◌≡◌ {A = Option A} (Some x) (Some y) → x ≡ y
some_same x y e = cc

module _ (m : Told) (name : List ℕ) where
  -- what is told of a name is one text
  one_text : (a b : List ℕ) → Tells (Some m) name a → Tells (Some m) name b → a ≡ b
  one_text a b ta tb = some_same a b (sym (ta m refl) ∙ tb m refl)

  not_lacking : {C : Type 0} (a : List ℕ) → Tells (Some m) name a → Lacks (Some m) name → C
  not_lacking a ta lacks = let told = ta m refl in let none = lacks m refl in cc

  not_long : {C : Type 0} (a : List ℕ) → Tells (Some m) name a → length a ≤ FILE_MOST → LongerThan (Some m) name FILE_MOST → C
  not_long a ta short long =
      let over : FILE_MOST < length a
      = subst (λ (o : Option (List ℕ)). IsSomeAnd o (λ bytes. FILE_MOST < length bytes)) (ta m refl) (long m refl) in
      absurd (omega arith)

  not_both : {C : Type 0} → LongerThan (Some m) name FILE_MOST → Lacks (Some m) name → C
  not_both long lacks =
      absurd (subst (λ (o : Option (List ℕ)). IsSomeAnd o (λ bytes. FILE_MOST < length bytes)) (lacks m refl) (long m refl))

  only_missing : (f : Fault) → IsDecided f → reads name (Some m) (Err f) → (f ≡ Missing name) × Lacks (Some m) name
  only_missing (Missing n) d a = (ap Missing a.0, a.1)
  only_missing (ReadFault n) d a = absurd d
  only_missing _ d a = absurd a

pub one_reads : (name : List ℕ) → AtMostOne (reads name)
one_reads name m (Ok None) (Ok None) dr ds a b = refl
one_reads name m (Ok None) (Ok (Some y)) dr ds a b = not_long m name y b.0 b.1 a
one_reads name m (Ok (Some x)) (Ok None) dr ds a b = not_long m name x a.0 a.1 b
one_reads name m (Ok (Some x)) (Ok (Some y)) dr ds a b = ap (λ (l : List ℕ). Ok (Some l)) (one_text m name x y a.0 b.0)
one_reads name m (Ok None) (Err f) dr ds a b = not_both m name a (only_missing m name f ds b).1
one_reads name m (Ok (Some x)) (Err f) dr ds a b = not_lacking m name x a.0 (only_missing m name f ds b).1
one_reads name m (Err e) (Ok None) dr ds a b = not_both m name b (only_missing m name e dr a).1
one_reads name m (Err e) (Ok (Some y)) dr ds a b = not_lacking m name y b.0 (only_missing m name e dr a).1
one_reads name m (Err e) (Err f) dr ds a b = ap Err ((only_missing m name e dr a).0 ∙ sym (only_missing m name f ds b).0)

-- ---- the answer that is due is given

decided : (f : Fault) → IsDecided f ⊎ ((f ≡ OutOfMemory) ⊎ ((n : List ℕ) × (f ≡ ReadFault n)))
decided (ReadFault n) = inr (inr (n, refl))
decided OutOfMemory = inr (inl refl)
decided _ = inl tt

pub settled :
    {A : Type 0} (p : Part A) → AtMostOne p → (files : FilesSpan) (r : Result A Fault) → Comes p files r → Settles p files r
settled p one files (Ok a) comes m s told due there quiet =
    inl (one m (Ok a) s tt due (subst (λ t. p t (Ok a)) told comes) there)
settled p one files (Err f) (inl free) m s told due there quiet = inr (ap Err free)
settled p one files (Err f) (inr (pf, counted)) m s told due there quiet =
    elim (decided f) [
      | inl is ↦ inl (one m (Err f) s is due (subst (λ t. p t (Err f)) told pf) there)
      | inr other ↦
          elim other [
            | inl free ↦ inr (ap Err free)
            | inr failed ↦ let rose = subst (Counted files) failed.1 counted in absurd (quiet rose.0)
          ]
    ]
