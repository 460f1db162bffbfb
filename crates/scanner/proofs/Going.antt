-- Several puts of a scanner in one go.
use Rattle.std.proofs.Common.{◌≡◌, ◌∙◌, ◌+◌, ◌≤◌, ◌||◌, ℕ, zero, suc, Bool, true, false, List, [], ◌∷◌, ◌++◌, take, drop, refl, sym, ap, subst, arith}
use Rattle.stream_tokens.specs.declared.Token.{Token}
use Rattle.stream_tokens.specs.declared.Token.TheVariants.{Item}
use Rattle.block_core.specs.declared.Wish.TheVariants.{Put}
use Rattle.block_core.specs.Move.{Move, Putting, wish_of}
use Rattle.block_core.specs.Scan.{Children}
use Rattle.block_core.specs.Ports.{Streams}
use Rattle.block_core.specs.Kind.{Kind, ScanKind, moves}
use Rattle.block_core.specs.Runs.{Runs}
use Rattle.block_core.specs.Stands.{Stands}
use Rattle.block_core.specs.Bursts.{MayPutNext, MayPour, Poured}
use Rattle.block_core.proofs.Standing.{wants-next, stands-put}
use Rattle.block_core.proofs.Pouring.{may_put_next, poured_none, poured_put, fed_then, drop-twice}
use Rattle.levels.specs.Reads.{children_at}
use Rattle.scanner.specs.declared.scan.Scanner.{Scanner}
use Rattle.scanner.specs.ScanSteps.{scan_steps, scan_wants, scan_put, child_number}
use Rattle.scanner.specs.declared.scan_state.ScanState.{ScanState}
use Rattle.scanner.specs.declared.scan_state.ScanState.TheVariants.{Child}
use Rattle.scanner.specs.declared.scan_state.Output.{Output}
use Rattle.scanner.specs.declared.scan_state.Output.TheVariants.{Coordinates, References}
use Rattle.scanner.specs.Outputs.{output_port}

-- what a scanner over these children is, by its state
abbrev pub kind_at : Children → ScanState → Kind
kind_at children state = ScanKind children

abbrev pub stands_at : Children → ScanState → Streams → ℕ → Type 0
stands_at children state = Stands (Runs (scan_steps children) state) (ScanKind children)

module _ {P : Type 0} (children : Children) (fed : P → List Move → Type 0) (did : P → List Move → P → Type 0) where
  wish-put : (state : ScanState) (port : ℕ) (t : Token) → Put port t ≡ scan_wants children state
      → (s : Streams) (n : ℕ) → stands_at children state s n → Put port t ≡ wish_of (drop n (moves (ScanKind children) s))
  wish-put state port t e s n h = e ∙ wants-next (scan_steps children) state _ h.rest

  -- what a state wants to put may be put
  pub may_put_wanted : (state : ScanState) (p : P) (port : ℕ) (t : Token) → Put port t ≡ scan_wants children state
      → MayPour (kind_at children) (stands_at children) fed state p → MayPutNext (fed p) port t
  may_put_wanted state p port t e may = may_put_next (kind_at children) (stands_at children) fed did state p may port t (wish-put state port t e)

  -- where that was put, it is one move more
  pub poured_wanted : ((p q : P) (xs rest : List Move) → did p xs q → fed p (xs ++ rest) → fed q rest)
      → ((p q r : P) (xs ys : List Move) → did p xs q → did q ys r → did p (xs ++ ys) r)
      → (first : ScanState) (p : P) (state : ScanState) (p' : P) (went : Bool) (next : ScanState) (p'' : P) (port : ℕ) (t : Token)
      → Put port t ≡ scan_wants children state → next ≡ scan_put children state
      → Poured (kind_at children) (stands_at children) fed did first p state p' went
      → did p' (Putting port t ∷ []) p'' → Poured (kind_at children) (stands_at children) fed did first p next p'' true
  poured_wanted after joined first p state p' went next p'' port t e moved h d =
      poured_put (kind_at children) (stands_at children) fed did after joined first p state p' went next p'' port t refl h (wish-put state port t e)
      (λ s n q u st at. stands-put (scan_steps children) state next (ScanKind children) s n q u moved at st) d

  -- what a state before a child's put wants
  pub wants-child : (state : ScanState) (output : Output) (r n x : ℕ) → state ≡ Child output r n → x ≡ child_number children output r n
      → Put (output_port output) (Item x) ≡ scan_wants children state
  wants-child state output r n x is e = ap (λ y. Put (output_port output) (Item y)) e ∙ sym (ap (scan_wants children) is)

  -- where a child's coordinate was put, its reference is next
  pub poured_coordinate : ((p : P) → did p [] p) → ((p q : P) (xs rest : List Move) → did p xs q → fed p (xs ++ rest) → fed q rest)
      → ((p q r : P) (xs ys : List Move) → did p xs q → did q ys r → did p (xs ++ ys) r)
      → (state : ScanState) (p p' : P) (r n x : ℕ) → state ≡ Child Coordinates r n → x ≡ child_number children Coordinates r n
      → did p (Putting 0 (Item x) ∷ []) p' → Poured (kind_at children) (stands_at children) fed did state p (Child References r n) p' true
  poured_coordinate none after joined state p p' r n x is e d =
      poured_wanted after joined state p state p false (Child References r n) p' 0 (Item x) (wants-child state Coordinates r n x is e) (sym (ap (scan_put children) is))
      (poured_none (kind_at children) (stands_at children) fed did none state p) d

-- ---- whole scanners

abbrev pub scanner_kind : Scanner → Kind
scanner_kind b = ScanKind (children_at b.storage.now b.level)

abbrev pub scanner_stands : Scanner → Streams → ℕ → Type 0
scanner_stands b = Stands (Runs (scan_steps (children_at b.storage.now b.level)) b.state) (ScanKind (children_at b.storage.now b.level))

take-sum : (ms : List Move) (k j : ℕ) → take k ms ++ take j (drop k ms) ≡ take (k + j) ms
take-sum ms zero j = let e : j ≡ 0 + j = omega arith in ap (λ i. take i ms) e
take-sum [] (suc k) j = nothing j ∙ sym (nothing (suc k + j))
  where
    nothing : (i : ℕ) → ◌≡◌ {A = List Move} (take i []) []
    nothing zero = refl
    nothing (suc i) = refl
take-sum (x ∷ xs) (suc k) j =
    let e : suc k + j ≡ suc (k + j) = omega arith in
    ap (λ (z : List Move). x ∷ z) (take-sum xs k j) ∙ sym (ap (λ i. take i (x ∷ xs)) e)

-- one burst after another
pub poured_then : {B P : Type 0} (kind : B → Kind) (stands : B → Streams → ℕ → Type 0) (fed : P → List Move → Type 0) (did : P → List Move → P → Type 0)
    → ((p q : P) (xs rest : List Move) → did p xs q → fed p (xs ++ rest) → fed q rest)
    → ((p q r : P) (xs ys : List Move) → did p xs q → did q ys r → did p (xs ++ ys) r)
    → (b : B) (p : P) (b' : B) (p' : P) (went : Bool) (b'' : B) (p'' : P) (goes all : Bool) → kind b' ≡ kind b → (all ≡ true → went || goes ≡ true)
    → Poured kind stands fed did b p b' p' went → Poured kind stands fed did b' p' b'' p'' goes → Poured kind stands fed did b p b'' p'' all
poured_then kind stands fed did after joined b p b' p' went b'' p'' goes all same one first next s n st fd =
    let ms = moves (kind b) s in
    let x = first s n st fd in
    let fd' : fed p' (drop (n + x.0) ms) = fed_then kind stands fed did after p p' ms n x.0 fd x.3 in
    let y = next s (n + x.0) x.2 (subst (λ k. fed p' (drop (n + x.0) (moves k s))) (sym same) fd') in
    let here : take y.0 (drop (n + x.0) (moves (kind b') s)) ≡ take y.0 (drop x.0 (drop n ms)) =
    ap (λ k. take y.0 (drop (n + x.0) (moves k s))) same ∙ ap (λ (z : List Move). take y.0 z) (sym (drop-twice ms n x.0)) in
    let d : did p' (take y.0 (drop x.0 (drop n ms))) p'' = subst (λ (z : List Move). did p' z p'') here y.3 in (
      x.0 + y.0,
      λ e. some went goes x.0 y.0 x.1 y.1 (one e),
      subst (stands b'' s) (omega arith) y.2,
      subst (λ (z : List Move). did p z p'') (take-sum (drop n ms) x.0 y.0) (joined p p' p'' (take x.0 (drop n ms)) (take y.0 (drop x.0 (drop n ms))) x.3 d),
    )
  where
    some : (a c : Bool) (i j : ℕ) → (a ≡ true → 1 ≤ i) → (c ≡ true → 1 ≤ j) → a || c ≡ true → 1 ≤ i + j
    some true c i j f h e = let k = f refl in omega (arith, k)
    some false c i j f h e = let k = h e in omega (arith, k)

pub or-first : (a b : Bool) → a ≡ true → a || b ≡ true
or-first true b e = refl
or-first false b e = absurd (cc)

pub or-second : (a b : Bool) → b ≡ true → a || b ≡ true
or-second true b e = refl
or-second false b e = e
