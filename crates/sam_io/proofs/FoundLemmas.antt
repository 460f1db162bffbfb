use Rattle.std.proofs.Common.{◌≡◌, ℕ, ◌<◌, true, List, [], ◌∷◌, length, drop, get_or, suc, refl, sym, ◌∙◌, ap, arith, Some}
use Rattle.std.specs.Prelude.{slice_get, nat_eq}
use Rattle.std.specs.Prelude.{if◌then◌else◌}
use Rattle.std.proofs.Math.Seq.{drop-cons}
use Rattle.std.proofs.lemmas.Option.{slice_get_read}
use Rattle.std.specs.Cmp.Lexicographic.{pointwise}
use Rattle.std.proofs.lemmas.Grind.{common_steps}
use Rattle.sam_io.specs.Outside.{Told, bytes_of}
use Rattle.sam_io.specs.Found.{named_place, Finds}

-- names that compare equal are equal
pub same_name : (a b : List ℕ) → pointwise nat_eq a b ≡ true → a ≡ b
same_name [] [] h = refl
same_name [] (y ∷ ys) h = grind (arith, common_steps)
same_name (x ∷ xs) [] h = grind (arith, common_steps)
same_name (x ∷ xs) (y ∷ ys) h = grind (arith, common_steps, same_name xs ys)

-- a search that stopped at k found the first of that name
pub found :
    (files : Told) (name : List ℕ) (k : ℕ) (file : List ℕ × List ℕ) → k < length files → file ≡ get_or files k file →
    pointwise nat_eq file.0 name ≡ true → bytes_of (drop k files) name ≡ bytes_of files name → Finds files name (Some k)
found files name k file inside got same kept =
    let e : file.0 ≡ name = same_name file.0 name same in
    let at_k : slice_get files k ≡ Some file = slice_get_read files (length files) k file refl inside got in
    let cons : drop k files ≡ file ∷ drop (suc k) files = drop-cons files k file inside ∙ ap (λ f. f ∷ drop (suc k) files) (sym got) in
    let first : bytes_of files name ≡ Some file.1 = sym kept ∙ ap (λ l. bytes_of l name) cons ∙ ap (λ b. if b then Some file.1 else bytes_of (drop (suc k) files) name) same in
    let first_self : bytes_of files file.0 ≡ Some file.1 = ap (λ n. bytes_of files n) e ∙ first in
    let place : named_place (slice_get files k) 0 ≡ Some (name, 0) = ap (λ o. named_place o 0) at_k ∙ ap (λ n. Some (n, 0)) e in (
      record {
        inside = inside;
        first = λ other here. grind (arith, first_self, at_k, here);
        within = λ other here. omega arith;
      },
      place,
    )
