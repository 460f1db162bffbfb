use Rattle.std.proofs.Common.{◌≡◌, ◌≤◌, ◌<◌, ℕ, List, ◌∷◌, ◌*◌, false, length, drop, slice_range, Ok, Err, sym, ◌∙◌, arith, subst}
use Rattle.std.specs.Prelude.{IfNone, IfSome}
use Rattle.std.specs.List.{before_first}
use Rattle.sam_model.specs.Tensors.{entry_list}
use Rattle.sam_text.specs.Bytes.{is_newline}
use Rattle.sam_text.specs.Lines.{lines}
use Rattle.sam_text.specs.Words.{words, is_skipped}
use Rattle.tns_io.specs.Answers.{entries_then}
use Rattle.tns_io.specs.Entries.{entry_lines, entries_of, next_entry, tns_entries}
use Rattle.tns_io.proofs.EntryLemmas.{entries_after, at-end, entries-within, fault-goes, read-at, refused-at, skipped-at}
use Rattle.tns_io.proofs.entries.read_tns.Goals as goal
use Rattle.tns_io.proofs.entries.read_tns.Goals.{in-Some, in-None+then-not-is_skipped+in_default, in-None+else-not-is_skipped}

pub returns-clause-in_range : goal.returns-clause-in_range
returns-clause-in_range c =
    rw (c.len.ensures, c.from_vec.ensures, c.from_vec-2.ensures)
    (entries-within c.args.dims.now 0 (entry_lines 1 (lines c.args.text.now)) _
    (at-end _ c.args.dims.now (length c.loop-from.values.items) c.loop-from.number c.loop-from.from c.args.text.now _ c.loop-from-test.false c.loop-from.invariant.same))

pub loop-from-preserved : goal.loop-from-preserved
loop-from-preserved c =
    elim c.match-branch-2.branch [
      | in-Some w ↦
          let text = c.args.text.now in
          let line = before_first is_newline (drop c.loop-from.from text) in
          let there : lines (drop c.loop-from.from text) ≡ line ∷ lines (drop w.in-Some.next text)
          = subst (λ o. IfSome o (λ next. lines (drop c.loop-from.from text) ≡ line ∷ lines (drop next text))) w.in-Some.is c.in_ok-next.ensures.line in
          let counts : is_skipped (words line) ≡ false = subst (λ o. IfSome o (λ _. is_skipped (words line) ≡ false)) w.in-Some.is c.in_ok-next.ensures.counts in
          let entry : entries_then c.loop-from.coords.items c.loop-from.values.items (next_entry c.as_slice.result.now (length c.loop-from.values.items) line) ≡ Ok (c.plain_line.new.coords.items, c.plain_line.new.values.items)
          = subst (λ o. IfSome o (λ _. entries_then c.loop-from.coords.items c.loop-from.values.items (next_entry c.as_slice.result.now (length c.loop-from.values.items) line) ≡ Ok (c.plain_line.new.coords.items, c.plain_line.new.values.items)))
          w.in-Some.is c.in_ok-next.ensures.entry in
          let in_text : w.in-Some.next ≤ length text = subst (λ o. IfSome o (λ next. next ≤ length text)) w.in-Some.is c.in_ok-next.ensures.in_text in
          let some : c.loop-from.from < w.in-Some.next = subst (λ o. IfSome o (λ next. c.loop-from.from < next)) w.in-Some.is c.in_ok-next.ensures.some in
          let numbered = c.loop-from.invariant.numbered in
          let read = read-at c.args.dims.now c.loop-from.coords.items c.loop-from.values.items c.loop-from.number line c.loop-from.from w.in-Some.next text
          there c.loop-from.invariant.same c.plain_line.new.coords.items c.plain_line.new.values.items counts c.loop-from.invariant.whole
          (subst (λ (sizes : List ℕ). entries_then c.loop-from.coords.items c.loop-from.values.items (next_entry sizes (length c.loop-from.values.items) line) ≡ Ok (c.plain_line.new.coords.items, c.plain_line.new.values.items)) c.as_slice.ensures entry) in
          rw (w.coords-is, w.values-is, w.from-is) (record { in_text = in_text; numbered = omega (arith, some, numbered); whole = read.whole; same = read.same })
      | in-None+then-not-is_skipped+in_default w ↦
          let text = c.args.text.now in
          let dims = c.args.dims.now in
          let line = slice_range text c.loop-from.from w.line_at-end.result.0 in
          let coords : c.plain_line.new.coords.items ≡ c.loop-from.coords.items = subst (λ o. IfNone o (c.plain_line.new.coords.items ≡ c.loop-from.coords.items)) w.in-None.is c.in_ok-next.ensures.coordinates_stay in
          let values : c.plain_line.new.values.items ≡ c.loop-from.values.items = subst (λ o. IfNone o (c.plain_line.new.values.items ≡ c.loop-from.values.items)) w.in-None.is c.in_ok-next.ensures.values_stay in
          let same : entries_after (entry_list (length dims) c.plain_line.new.coords.items c.plain_line.new.values.items) (entries_of dims (length c.plain_line.new.values.items) (entry_lines c.loop-from.number (lines (drop c.loop-from.from text)))) ≡ tns_entries dims text
          = rw (coords, values) c.loop-from.invariant.same in
          let whole : length c.plain_line.new.coords.items ≡ length dims * length c.plain_line.new.values.items = rw (coords, values) c.loop-from.invariant.whole in
          let read = read-at dims c.plain_line.new.coords.items c.plain_line.new.values.items c.loop-from.number line c.loop-from.from w.line_at-end.result.1 text
          (w.line_at-end.ensures.line c.loop-from-test.true) same _ _ (sym w.is_skipped.ensures ∙ w.if-not-is_skipped.true) whole w.in_default.ensures in
          rw (w.coords-is, w.values-is, w.from-is) (record { in_text = omega arith; numbered = omega arith; whole = read.whole; same = read.same })
      | in-None+else-not-is_skipped w ↦
          let text = c.args.text.now in
          let dims = c.args.dims.now in
          let line = slice_range text c.loop-from.from w.line_at-end.result.0 in
          let coords : c.plain_line.new.coords.items ≡ c.loop-from.coords.items = subst (λ o. IfNone o (c.plain_line.new.coords.items ≡ c.loop-from.coords.items)) w.in-None.is c.in_ok-next.ensures.coordinates_stay in
          let values : c.plain_line.new.values.items ≡ c.loop-from.values.items = subst (λ o. IfNone o (c.plain_line.new.values.items ≡ c.loop-from.values.items)) w.in-None.is c.in_ok-next.ensures.values_stay in
          let same : entries_after (entry_list (length dims) c.plain_line.new.coords.items c.plain_line.new.values.items) (entries_of dims (length c.plain_line.new.values.items) (entry_lines c.loop-from.number (lines (drop c.loop-from.from text)))) ≡ tns_entries dims text
          = rw (coords, values) c.loop-from.invariant.same in
          let whole : length c.plain_line.new.coords.items ≡ length dims * length c.plain_line.new.values.items = rw (coords, values) c.loop-from.invariant.whole in
          let over = skipped-at dims c.plain_line.new.coords.items c.plain_line.new.values.items c.loop-from.number line c.loop-from.from w.line_at-end.result.1 text
          (w.line_at-end.ensures.line c.loop-from-test.true) same (sym w.is_skipped.ensures ∙ w.if-not-is_skipped.false) in
          rw (w.coords-is, w.values-is, w.from-is) (record { in_text = omega arith; numbered = omega arith; whole = whole; same = over })
    ]

pub returns-in-Err-clause-refused : goal.returns-in-Err-clause-refused
returns-in-Err-clause-refused c =
    let text = c.args.text.now in
    let dims = c.args.dims.now in
    let line = slice_range text c.loop-from.from c.line_at-end.result.0 in
    let coords : c.plain_line.new.coords.items ≡ c.loop-from.coords.items = subst (λ o. IfNone o (c.plain_line.new.coords.items ≡ c.loop-from.coords.items)) c.in-None.is c.in_ok-next.ensures.coordinates_stay in
    let values : c.plain_line.new.values.items ≡ c.loop-from.values.items = subst (λ o. IfNone o (c.plain_line.new.values.items ≡ c.loop-from.values.items)) c.in-None.is c.in_ok-next.ensures.values_stay in
    let same : entries_after (entry_list (length dims) c.plain_line.new.coords.items c.plain_line.new.values.items) (entries_of dims (length c.plain_line.new.values.items) (entry_lines c.loop-from.number (lines (drop c.loop-from.from text)))) ≡ tns_entries dims text
    = rw (coords, values) c.loop-from.invariant.same in
    rw c.at.ensures
    (fault-goes c.in-Err.fault c.loop-from.number _ _ (λ kind n. tns_entries dims text ≡ Err (kind, n)) c.in-Err.ensures
    (λ kind e. refused-at dims c.plain_line.new.coords.items c.plain_line.new.values.items c.loop-from.number line c.loop-from.from c.line_at-end.result.1 text
    (c.line_at-end.ensures.line c.loop-from-test.true) same kind (sym c.is_skipped.ensures ∙ c.if-not-is_skipped.true) e))
