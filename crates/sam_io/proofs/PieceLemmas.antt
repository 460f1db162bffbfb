use Rattle.std.proofs.Common.{◌≡◌, ℕ, ◌+◌, ◌-◌, ◌≤◌, List, ◌++◌, length, take, drop, refl, sym, subst, ◌∙◌, ap, append_assoc, arith, length-append, length-drop, Option, Some, None}
use Rattle.std.specs.Prelude.{IsSomeAnd, IfSome}
use Rattle.std.proofs.Math.Seq.{take-add}
use Rattle.std.proofs.lemmas.List.{length-take-le, take_all, take-append-le}
use Rattle.sam_io.specs.Outside.{Told, Place, bytes_of, grown, NextBytes, GivesNext, BeginsTold, Tells}

-- growing twice is growing by both
pub grown-grown : (w : Option (List ℕ)) (a b : List ℕ) → grown (grown w a) b ≡ grown w (a ++ b)
grown-grown None a b = refl
grown-grown (Some w) a b = ap Some (append_assoc w a b)

-- the slice from d on is the rest
pub slice_rest : (xs : List ℕ) (d : ℕ) → take (length xs - d) (drop d xs) ≡ drop d xs
slice_rest xs d = take_all (length xs - d) (drop d xs) (omega (arith, length-drop d xs))

-- one more piece of a text
pub grown-take :
    (w0 w w1 : Option (List ℕ)) (xs : List ℕ) (d n : ℕ) →
    w ≡ grown w0 (take d xs) → w1 ≡ grown w (take n (take (length xs - d) (drop d xs))) → w1 ≡ grown w0 (take (d + n) xs)
grown-take w0 w w1 xs d n before step =
    step ∙ ap (λ v. grown w (take n v)) (slice_rest xs d) ∙ ap (λ v. grown v (take n (drop d xs))) before
    ∙ grown-grown w0 (take d xs) (take n (drop d xs)) ∙ ap (λ v. grown w0 v) (sym (take-add d n xs))

-- one more piece of what is told
pub piece_begins :
    (b text buf : List ℕ) (n : ℕ) → n ≤ length buf → text ≡ take (length text) b → take n buf ≡ take n (drop (length text) b) →
    text ++ take n buf ≡ take (length (text ++ take n buf)) b
piece_begins b text buf n fits front next =
    let long : length (text ++ take n buf) ≡ length text + n = length-append text (take n buf) ∙ ap (λ k. length text + k) (length-take-le n buf fits) in
    ap (λ t. t ++ take n buf) front ∙ ap (λ t. take (length text) b ++ t) next ∙ sym (take-add (length text) n b) ∙ ap (λ k. take k b) (sym long)

pub option_begins :
    (o : Option (List ℕ)) (text buf : List ℕ) (n : ℕ) → n ≤ length buf →
    IsSomeAnd o (λ b. text ≡ take (length text) b) → IfSome o (λ b. NextBytes b (length text) n buf) →
    IsSomeAnd o (λ b. text ++ take n buf ≡ take (length (text ++ take n buf)) b)
option_begins None text buf n fits begins next = begins
option_begins (Some b) text buf n fits begins next = piece_begins b text buf n fits begins next.same

-- what a piece adds
pub grew :
    (text buf rest now : List ℕ) (n : ℕ) → n ≤ length buf → now ≡ text ++ take n (buf ++ rest) →
    (now ≡ text ++ take n buf) × (length now ≡ length text + n)
grew text buf rest now n fits step =
    let same : now ≡ text ++ take n buf = step ∙ ap (λ v. text ++ v) (take-append-le n buf rest fits) in
    (same, ap length same ∙ length-append text (take n buf) ∙ ap (λ k. length text + k) (length-take-le n buf fits))

pub begins_more :
    (told now : Option Told) (place : Place) (name text buf more : List ℕ) (n : ℕ) → n ≤ length buf → now ≡ told →
    place ≡ Some (name, length text) → BeginsTold told name text → GivesNext now place n buf →
    more ≡ text ++ take n buf → BeginsTold told name more
begins_more told now place name text buf more n fits same begun begins next grown m e =
    subst (λ t. IsSomeAnd (bytes_of m name) (λ b. t ≡ take (length t) b)) (sym grown)
    (option_begins (bytes_of m name) text buf n fits (begins m e) (next m name (length text) (same ∙ e) begun))

pub option_ends :
    (o : Option (List ℕ)) (text buf : List ℕ) →
    IsSomeAnd o (λ b. text ≡ take (length text) b) → IfSome o (λ b. NextBytes b (length text) 0 buf) → o ≡ Some text
option_ends None text buf begins next = absurd begins
option_ends (Some b) text buf begins next =
    let all : length b ≤ length text = next.ends refl in
    ap Some (sym (begins ∙ take_all (length text) b all))

pub tells_all :
    (told now : Option Told) (place : Place) (name text buf : List ℕ) → now ≡ told →
    place ≡ Some (name, length text) → BeginsTold told name text → GivesNext now place 0 buf → Tells told name text
tells_all told now place name text buf same begun begins next m e =
    option_ends (bytes_of m name) text buf (begins m e) (next m name (length text) (same ∙ e) begun)
