-- The fronts of a result, as its paths come one after another.
use Rattle.std.proofs.Common.{◌≡◌, ℕ, ◌+◌, ◌-◌, Bool, true, false, cond, not, List, ◌∷◌, ◌++◌, length, take, drop, refl, sym, ap, ◌∙◌, arith, nat_lt}
use Rattle.std.proofs.lemmas.Bool.{and_parts}
use Rattle.std.proofs.lemmas.Bool.Decides.{nat_tests}
use Rattle.std.proofs.lemmas.List.{length-append}
use Rattle.std.proofs.Math.Seq.{drop-append_seam}
use Rattle.sam_model.specs.Lists.{same_list}
use Rattle.tns_io.specs.Fronts.{fronts, fronts_behind}
use Rattle.tns_io.specs.Rows.{ends_in}

-- the fronts that are still to come, behind those whose numbers are these
abbrev pub fronts_left : ℕ → List ℕ → List (List ℕ × ℕ) → List (List ℕ)
fronts_left long numbers es = cond (nat_lt (length numbers) long) (fronts long es) (fronts_behind long (drop (length numbers - long) numbers) es)

not-short : (b : Bool) → not b ≡ true → b ≡ false
not-short true h = absurd (cc)
not-short false h = refl

-- a path whose front stands last brings none
pub front-stays : (long : ℕ) (numbers front : List ℕ) (e : List ℕ × ℕ) (es : List (List ℕ × ℕ)) → front ≡ take long e.0 → length front ≡ long → ends_in front numbers ≡ true
    → fronts_left long numbers (e ∷ es) ≡ fronts_left long numbers es
front-stays long numbers front e es f l h =
    let parts = and_parts _ _ h in
    let enough : nat_lt (length numbers) (length front) ≡ false = not-short (nat_lt (length numbers) (length front)) parts.0 in
    let last : same_list (drop (length numbers - length front) numbers) front ≡ true = parts.1 in
    let short : nat_lt (length numbers) long ≡ false = rw l at enough in
    let same : same_list (drop (length numbers - long) numbers) (take long e.0) ≡ true = rw (l, f) at last in
    rw (short, same) refl

-- another one brings its own
pub front-comes : (long : ℕ) (numbers front : List ℕ) (e : List ℕ × ℕ) (es : List (List ℕ × ℕ)) → front ≡ take long e.0 → length front ≡ long → ends_in front numbers ≡ false
    → fronts_left long numbers (e ∷ es) ≡ front ∷ fronts_left long (numbers ++ front) es
front-comes long numbers front e es f l h = by_case (nat_lt (length numbers) long) refl ∙ sym after
  where
    more : length (numbers ++ front) ≡ length numbers + long
    more = length-append numbers front ∙ ap (λ n. length numbers + n) l

    enough : nat_lt (length numbers + long) long ≡ false
    enough = grind (arith, nat_tests)

    back : length numbers + long - long ≡ length numbers
    back = omega arith

    after : front ∷ fronts_left long (numbers ++ front) es ≡ take long e.0 ∷ fronts_behind long (take long e.0) es
    after = rw (more, enough, back, drop-append_seam numbers front, f) refl

    by_case : (b : Bool) → nat_lt (length numbers) long ≡ b → fronts_left long numbers (e ∷ es) ≡ take long e.0 ∷ fronts_behind long (take long e.0) es
    by_case true short = rw short refl
    by_case false enough =
        let apart : same_list (drop (length numbers - long) numbers) (take long e.0) ≡ false = rw (l, f, enough) at h in
        rw (enough, apart) refl
