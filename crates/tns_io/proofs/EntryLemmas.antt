-- Files, entry by entry.
use Rattle.std.proofs.Common.{◌≡◌, ℕ, suc, ◌+◌, ◌*◌, ◌≤◌, Bool, true, false, not, List, [], ◌∷◌, ◌++◌, length, drop, Result, Ok, Err, refl, sym, ap, ◌∙◌, append_assoc, arith, nat_lt, add-one, length-append, length-drop}
use Rattle.std.proofs.lemmas.List.{take-append-le, drop-append-le, drop_all, append-nil, take_all}
use Rattle.std.specs.List.{list_all}
use Rattle.sam_base.specs.declared.faults.TnsKind.{TnsKind}
use Rattle.sam_base.specs.declared.TheConstants.{ENTRIES_MOST}
use Rattle.sam_model.specs.Lists.{within}
use Rattle.sam_model.specs.Tensors.{entry_list}
use Rattle.sam_text.specs.Lines.{lines}
use Rattle.sam_text.specs.Words.{words}
use Rattle.sam_text.specs.Words.{is_skipped}
use Rattle.tns_io.specs.Fields.{Entry, line_entry}
use Rattle.tns_io.specs.Entries.{limited, next_entry, with_entry, entry_lines, entries_of, tns_entries}
use Rattle.tns_io.specs.declared.faults.LineFault.{LineFault}
use Rattle.tns_io.specs.declared.faults.LineFault.TheVariants as line
use Rattle.tns_io.specs.Answers.{Reads, IfTnsRefused, at_line, entries_then}
use Rattle.tns_io.proofs.FieldLemmas.{FitsSizes, entry-fits}

abbrev pub File : Type 0
File = Result (List Entry) (TnsKind × ℕ)

-- some entries before those of a file
abbrev pub entries_after : List Entry → File → File
entries_after es (Ok more) = Ok (es ++ more)
entries_after es (Err fault) = Err fault

after-push : (es : List Entry) (e : Entry) (n : ℕ) (r : File) → entries_after (es ++ e ∷ []) r ≡ entries_after es (with_entry n (Ok e) r)
after-push es e n (Ok more) = ap Ok (append_assoc es (e ∷ []) more)
after-push es e n (Err fault) = refl

pub nothing-after : (es : List Entry) → entries_after es (Ok []) ≡ Ok es
nothing-after es = ap Ok (append-nil es)

-- a list of entries with one more
pub entry_list-push : (arity : ℕ) (cs vs xs : List ℕ) (v : ℕ) → length cs ≡ arity * length vs → length xs ≡ arity
    → entry_list arity (cs ++ xs) (vs ++ v ∷ []) ≡ entry_list arity cs vs ++ (xs, v) ∷ []
entry_list-push arity [] [] xs v h e = ap (λ (ys : List ℕ). (ys, v) ∷ []) (take_all arity xs (omega arith))
entry_list-push arity (c ∷ cs) [] xs v h e = absurd (omega (arith, h))
entry_list-push arity cs (w ∷ vs) xs v h e =
    let room : arity ≤ length cs = grind (arith, h) in
    let rest : length (drop arity cs) ≡ arity * length vs = grind (arith, h, length-drop arity cs) in
    rw (take-append-le arity cs xs room, drop-append-le arity cs xs room, entry_list-push arity (drop arity cs) vs xs v rest e) refl

limited-ok : (room : Bool) (r : Result Entry TnsKind) (e : Entry) → limited room r ≡ Ok e → r ≡ Ok e
limited-ok true (Ok f) e h = h
limited-ok false (Ok f) e h = cc
limited-ok room (Err kind) e h = cc

pub next-fits : (sizes : List ℕ) (count : ℕ) (line : List ℕ) (e : Entry) → next_entry sizes count line ≡ Ok e → FitsSizes sizes e.0
next-fits sizes count line e h = entry-fits sizes (words line) e (limited-ok (nat_lt count ENTRIES_MOST) (line_entry sizes (words line)) e h)

with-step : (sizes : List ℕ) (n : ℕ) (r : Result Entry TnsKind) (rest : File) (es : List Entry) → ((e : Entry) → r ≡ Ok e → within sizes e.0 ≡ true) → ((more : List Entry) → rest ≡ Ok more → list_all (λ (e : Entry). within sizes e.0) more ≡ true)
    → with_entry n r rest ≡ Ok es → list_all (λ (e : Entry). within sizes e.0) es ≡ true
with-step sizes n (Err kind) rest es a b h = cc
with-step sizes n (Ok e) (Err fault) es a b h = cc
with-step sizes n (Ok e) (Ok more) es a b h =
    let same : e ∷ more ≡ es = cc in
    rw (← same) (rw (a e refl) (b more refl))

-- the entries of a file fit the sizes of the modes
pub entries-within : (sizes : List ℕ) (count : ℕ) (ls : List (ℕ × List ℕ)) (es : List Entry) → entries_of sizes count ls ≡ Ok es → list_all (λ (e : Entry). within sizes e.0) es ≡ true
entries-within sizes count [] es h = let same : [] ≡ es = cc in rw (← same) refl
entries-within sizes count (l ∷ ls) es h =
    with-step sizes l.0 (next_entry sizes count l.1) (entries_of sizes (suc count) ls) es
    (λ e q. (next-fits sizes count l.1 e q).below) (λ more q. entries-within sizes (suc count) ls more q) h

-- a line that is skipped
pub skipped-line : (n : ℕ) (l : List ℕ) (ls : List (List ℕ)) → is_skipped (words l) ≡ true → entry_lines n (l ∷ ls) ≡ entry_lines (n + 1) ls
skipped-line n l ls h = rw h refl

pub kept-line : (n : ℕ) (l : List ℕ) (ls : List (List ℕ)) → is_skipped (words l) ≡ false → entry_lines n (l ∷ ls) ≡ (n, l) ∷ entry_lines (n + 1) ls
kept-line n l ls h = rw h refl

-- what a line with an entry makes of those before
pub record Grown (sizes cs vs : List ℕ) (more : List (ℕ × List ℕ)) (file : File) : Type 0 where
  pub whole : length cs ≡ length sizes * length vs
  pub same : entries_after (entry_list (length sizes) cs vs) (entries_of sizes (length vs) more) ≡ file

grow : (sizes cs vs ds ws : List ℕ) (n : ℕ) (more : List (ℕ × List ℕ)) (file : File) (r : Result Entry TnsKind) → length cs ≡ length sizes * length vs → ((e : Entry) → r ≡ Ok e → length e.0 ≡ length sizes)
    → entries_after (entry_list (length sizes) cs vs) (with_entry n r (entries_of sizes (suc (length vs)) more)) ≡ file → entries_then cs vs r ≡ Ok (ds, ws) → Grown sizes ds ws more file
grow sizes cs vs ds ws n more file (Err kind) h fits same e = cc
grow sizes cs vs ds ws n more file (Ok entry) h fits same e =
    let many : length entry.0 ≡ length sizes = fits entry refl in
    let total : length (cs ++ entry.0) ≡ length sizes * length (vs ++ entry.1 ∷ []) = simp length-append (grind (arith, h, many)) in
    let both : (cs ++ entry.0, vs ++ entry.1 ∷ []) ≡ (ds, ws) = cc in
    let first : cs ++ entry.0 ≡ ds = ap (λ (q : List ℕ × List ℕ). q.0) both in
    let second : vs ++ entry.1 ∷ [] ≡ ws = ap (λ (q : List ℕ × List ℕ). q.1) both in
    rw (← first, ← second) (record {
      whole = total;
      same = rw (entry_list-push (length sizes) cs vs entry.0 entry.1 h many, length-append vs (entry.1 ∷ []), add-one)
          (after-push (entry_list (length sizes) cs vs) entry n (entries_of sizes (suc (length vs)) more) ∙ same);
    })

pub line-read : (sizes cs vs ds ws : List ℕ) (n : ℕ) (l : List ℕ) (ls : List (List ℕ)) (file : File) → is_skipped (words l) ≡ false → length cs ≡ length sizes * length vs
    → entries_after (entry_list (length sizes) cs vs) (entries_of sizes (length vs) (entry_lines n (l ∷ ls))) ≡ file → entries_then cs vs (next_entry sizes (length vs) l) ≡ Ok (ds, ws)
    → Grown sizes ds ws (entry_lines (n + 1) ls) file
line-read sizes cs vs ds ws n l ls file k h same e =
    let at : entries_after (entry_list (length sizes) cs vs) (entries_of sizes (length vs) ((n, l) ∷ entry_lines (n + 1) ls)) ≡ file = rw (kept-line n l ls k) at same in
    grow sizes cs vs ds ws n (entry_lines (n + 1) ls) file (next_entry sizes (length vs) l) h (λ e q. (next-fits sizes (length vs) l e q).many) at e

refused : (cs vs : List ℕ) (r : Result Entry TnsKind) (kind : TnsKind) → entries_then cs vs r ≡ Err kind → r ≡ Err kind
refused cs vs (Ok e) kind h = cc
refused cs vs (Err k) kind h = cc

pub line-refused : (sizes cs vs : List ℕ) (n : ℕ) (l : List ℕ) (ls : List (List ℕ)) (file : File) (kind : TnsKind) → is_skipped (words l) ≡ false
    → entries_after (entry_list (length sizes) cs vs) (entries_of sizes (length vs) (entry_lines n (l ∷ ls))) ≡ file → entries_then cs vs (next_entry sizes (length vs) l) ≡ Err kind
    → file ≡ Err (kind, n)
line-refused sizes cs vs n l ls file kind k same e =
    let r = refused cs vs (next_entry sizes (length vs) l) kind e in
    sym (rw (kept-line n l ls k, r) at same)

-- behind the last line
pub at-end : (es : List Entry) (sizes : List ℕ) (count n from : ℕ) (text : List ℕ) (file : File) → length text ≤ from → entries_after es (entries_of sizes count (entry_lines n (lines (drop from text)))) ≡ file → file ≡ Ok es
at-end es sizes count n from text file h same =
    let none : drop from text ≡ [] = drop_all from text h in
    sym (sym (nothing-after es) ∙ rw none at same)

-- the fault of a line, with its number
pub fault-goes : {A B : Type 0} (fault : LineFault) (n : ℕ) (value : A → B) (reading : Result B TnsKind) (P : TnsKind → ℕ → Type 0) → Reads {A = A} {B = B} (Err fault) value reading → ((kind : TnsKind) → reading ≡ Err kind → P kind n) → IfTnsRefused (at_line fault n) P
fault-goes (line.Refused kind) n value reading P h f = f kind h
fault-goes line.OutOfMemory n value reading P h f = tt

not-false : (t s : Bool) → not t ≡ true → t ≡ s → s ≡ false
not-false true s h e = cc
not-false false s h e = sym e

module _ (sizes cs vs : List ℕ) (n : ℕ) (l : List ℕ) (from next : ℕ) (text : List ℕ) (there : lines (drop from text) ≡ l ∷ lines (drop next text))
    (same : entries_after (entry_list (length sizes) cs vs) (entries_of sizes (length vs) (entry_lines n (lines (drop from text)))) ≡ tns_entries sizes text) where
  before : entries_after (entry_list (length sizes) cs vs) (entries_of sizes (length vs) (entry_lines n (l ∷ lines (drop next text)))) ≡ tns_entries sizes text
  before = rw there at same

  -- a line is passed over
  pub skipped-at : is_skipped (words l) ≡ true → entries_after (entry_list (length sizes) cs vs) (entries_of sizes (length vs) (entry_lines (n + 1) (lines (drop next text)))) ≡ tns_entries sizes text
  skipped-at k = rw (skipped-line n l (lines (drop next text)) k) at before

  -- a line is read
  pub read-at : (ds ws : List ℕ) → is_skipped (words l) ≡ false → length cs ≡ length sizes * length vs → entries_then cs vs (next_entry sizes (length vs) l) ≡ Ok (ds, ws) → Grown sizes ds ws (entry_lines (n + 1) (lines (drop next text))) (tns_entries sizes text)
  read-at ds ws k h e = line-read sizes cs vs ds ws n l (lines (drop next text)) (tns_entries sizes text) k h before e

  -- a line is refused
  pub refused-at : (kind : TnsKind) → is_skipped (words l) ≡ false → entries_then cs vs (next_entry sizes (length vs) l) ≡ Err kind → tns_entries sizes text ≡ Err (kind, n)
  refused-at kind k e = line-refused sizes cs vs n l (lines (drop next text)) (tns_entries sizes text) kind k before e
