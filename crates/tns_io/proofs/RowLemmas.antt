-- Lists of one length, joined and read back.
use Rattle.std.proofs.Common.{◌≡◌, ℕ, zero, suc, ◌+◌, ◌-◌, ◌*◌, ◌<◌, ◌≤◌, List, [], ◌∷◌, ◌++◌, length, take, drop, refl, ap, ◌∙◌, arith, append-nil}
use Rattle.std.proofs.lemmas.List.{length-append, length-drop, length-take-le, take-append-drop, drop-drop}
use Rattle.std.proofs.Math.Seq.{take-append_seam, drop-append_seam}
use Rattle.std.proofs.lemmas.Grind.{flat_map-append}
use Rattle.sam_base.specs.Each.{Each}
use Rattle.tns_io.specs.Rows.{joined, rows_of}

-- one more
pub joined-on : (rows : List (List ℕ)) (row : List ℕ) → joined (rows ++ row ∷ []) ≡ joined rows ++ row
joined-on rows row = flat_map-append (λ r. r) rows (row ∷ []) ∙ ap (λ (r : List ℕ). joined rows ++ r) (append-nil row)

pub front-of : (long : ℕ) (row rest : List ℕ) → length row ≡ long → take long (row ++ rest) ≡ row
front-of long row rest h = rw (← h) (take-append_seam row rest)

pub behind : (long : ℕ) (row rest : List ℕ) → length row ≡ long → drop long (row ++ rest) ≡ rest
behind long row rest h = rw (← h) (drop-append_seam row rest)

-- lists of one length are read back
pub rows-joined : (long : ℕ) (rows : List (List ℕ)) → Each (λ row. length row ≡ long) rows → rows_of long (length rows) (joined rows) ≡ rows
rows-joined long [] h = refl
rows-joined long (row ∷ rows) h =
    rw (front-of long row (joined rows) h.0, behind long row (joined rows) h.0, rows-joined long rows h.1) refl

-- what is left behind a row
left-behind : (long n : ℕ) (numbers : List ℕ) → length numbers ≡ suc n * long → length (drop long numbers) ≡ n * long
left-behind long n numbers h =
    let all : length numbers ≡ long + n * long = grind (arith, h) in
    let less = length-drop long numbers in
    omega (arith, all, less)

row-there : (long n : ℕ) (numbers : List ℕ) → length numbers ≡ suc n * long → length (take long numbers) ≡ long
row-there long n numbers h =
    let all : length numbers ≡ long + n * long = grind (arith, h) in
    length-take-le long numbers (omega (arith, all))

-- so many rows are all there is
pub joined-rows : (long n : ℕ) (numbers : List ℕ) → length numbers ≡ n * long → joined (rows_of long n numbers) ≡ numbers
joined-rows long zero [] h = refl
joined-rows long zero (x ∷ numbers) h = absurd (omega (arith, h))
joined-rows long (suc n) numbers h =
    ap (λ (rest : List ℕ). take long numbers ++ rest) (joined-rows long n (drop long numbers) (left-behind long n numbers h))
    ∙ take-append-drop long numbers

pub rows-many : (long n : ℕ) (numbers : List ℕ) → length (rows_of long n numbers) ≡ n
rows-many long zero numbers = refl
rows-many long (suc n) numbers = ap suc (rows-many long n (drop long numbers))

pub rows-long : (long n : ℕ) (numbers : List ℕ) → length numbers ≡ n * long → Each (λ row. length row ≡ long) (rows_of long n numbers)
rows-long long zero numbers h = tt
rows-long long (suc n) numbers h = (row-there long n numbers h, rows-long long n (drop long numbers) (left-behind long n numbers h))

-- the numbers of lists of one length
pub joined-long : (long : ℕ) (rows : List (List ℕ)) → Each (λ row. length row ≡ long) rows → length (joined rows) ≡ length rows * long
joined-long long [] h = omega arith
joined-long long (row ∷ rows) h =
    let rest = joined-long long rows h.1 in
    let both = length-append row (joined rows) in
    let first = h.0 in
    grind (arith, rest, both, first)

-- the rows from one on
abbrev pub rows_left : ℕ → ℕ → List ℕ → ℕ → List (List ℕ)
rows_left long n numbers row = rows_of long (n - row) (drop (row * long) numbers)

pub rows-all : (long n : ℕ) (numbers : List ℕ) → rows_left long n numbers 0 ≡ rows_of long n numbers
rows-all long n numbers =
    let all : n - 0 ≡ n = omega arith in
    let from : 0 * long ≡ 0 = omega arith in
    rw (all, from) refl

pub rows-next : (long n : ℕ) (numbers : List ℕ) (row : ℕ) → row < n → rows_left long n numbers row ≡ take long (drop (row * long) numbers) ∷ rows_left long n numbers (row + 1)
rows-next long n numbers row h =
    let one : n - row ≡ suc (n - (row + 1)) = omega (arith, h) in
    let next : row * long + long ≡ (row + 1) * long = grind arith in
    rw (one, drop-drop long (row * long) numbers, next) refl

pub rows-done : (long n : ℕ) (numbers : List ℕ) (row : ℕ) → n ≤ row → rows_left long n numbers row ≡ []
rows-done long n numbers row h = let none : n - row ≡ 0 = omega (arith, h) in rw none refl

-- one of so many rows
pub row-inside : (long n row : ℕ) (numbers : List ℕ) → length numbers ≡ n * long → row < n → row * long + long ≤ length numbers
row-inside long n row numbers whole h =
    let more : (row + 1) * long ≤ n * long = grind (arith, h) in
    let next : row * long + long ≡ (row + 1) * long = grind arith in
    omega (arith, more, next, whole)
