use Rattle.std.proofs.Common.{◌≡◌, Bool, true, false, ◌&&◌, length, nat_lt, refl, ap, sym, ◌∙◌, arith}
use Rattle.std.proofs.lemmas.Bool.Decides.{nat_tests}
use Rattle.std.proofs.lemmas.List.{length-map}
use Rattle.sam_base.specs.declared.TheConstants.{ENTRIES_MOST}
use Rattle.sam_model.specs.Listing.{listing}
use Rattle.sam_model.specs.Pattern.{closed, ends_dense}
use Rattle.tns_io.proofs.ClosedLemmas.{merged-length}
use Rattle.tns_io.proofs.ClosingLemmas.{last-inside, fronts-whole, listed-many, listed-is, is-dense, some-levels, closed-within}
use Rattle.tns_io.proofs.RowLemmas.{rows-many}
use Rattle.tns_io.proofs.closing.close_result.Goals as goal

no-more : (b : Bool) → (b && false) ≡ false
no-more true = refl
no-more false = refl

pub fronts_above-requires-clause-levels : goal.fronts_above-requires-clause-levels
fronts_above-requires-clause-levels c =
    rw (c.last_compressed-last.ensures, c.requires.in_range.segs)
    (last-inside c.args.declared.now c.args.w c.requires.formed c.requires.in_range c.requires.below c.requires.ascending)

pub spread_count-requires-clause-there : goal.spread_count-requires-clause-there
spread_count-requires-clause-there c =
    rw c.last_compressed-last.ensures
    (last-inside c.args.declared.now c.args.w c.requires.formed c.requires.in_range c.requires.below c.requires.ascending)

pub spread_paths-requires-clause-there : goal.spread_paths-requires-clause-there
spread_paths-requires-clause-there c =
    rw c.last_compressed-last.ensures
    (last-inside c.args.declared.now c.args.w c.requires.formed c.requires.in_range c.requires.below c.requires.ascending)

pub spread_paths-requires-clause-whole : goal.spread_paths-requires-clause-whole
spread_paths-requires-clause-whole c =
    rw c.last_compressed-last.ensures
    (fronts-whole c.args.declared.now c.args.w c.requires.formed c.requires.in_range c.requires.below c.requires.ascending
    c.in_ok-fronts.fronts.numbers.items c.in_ok-fronts.fronts.count
    (rw c.last_compressed-last.ensures at c.in_ok-fronts.ensures.paths) (rw c.last_compressed-last.ensures at c.in_ok-fronts.ensures.count))

pub in_coordinates-requires-clause-rows : goal.in_coordinates-requires-clause-rows
in_coordinates-requires-clause-rows c =
    let paths = c.in_ok-paths-in-Some.paths in
    let many : length c.in_ok-values-in-Some.values ≡ paths.count =
    ap length c.in_ok-values-in-Some.ensures ∙ length-map _ _ ∙ merged-length _ _ ∙ rows-many c.len-levels.result paths.count paths.numbers.items in
    ap length c.as_slice.ensures.value ∙ c.in_ok-paths-in-Some.ensures.whole ∙ sym (rw (many, c.len-levels.ensures) refl)

is_listed : (c : goal.After-drop-w-in-Some-3) → listing c.in_ok-in_coordinates-in-Some.field-0 ≡ closed c.args.declared.now (listing c.args.w)
is_listed c =
    let t = c.args.declared.now in
    let apart = rw (c.last_compressed-last.ensures, c.len-levels.ensures) at c.if-last-levels.false in
    let paths = c.in_ok-paths-in-Some.paths in
    listed-is t c.args.w c.requires.formed c.requires.in_range c.requires.below c.requires.ascending
    c.in_ok-fronts.fronts.numbers.items c.in_ok-fronts.fronts.count
    (rw c.last_compressed-last.ensures at c.in_ok-fronts.ensures.paths) (rw c.last_compressed-last.ensures at c.in_ok-fronts.ensures.count)
    (some-levels t c.args.w c.requires.formed c.requires.in_range c.requires.below c.requires.ascending apart)
    paths.numbers.items c.in_ok-values-in-Some.values paths.count (listing c.in_ok-in_coordinates-in-Some.field-0)
    (rw c.last_compressed-last.ensures at c.in_ok-paths-in-Some.ensures.paths)
    (rw c.last_compressed-last.ensures at c.in_ok-paths-in-Some.ensures.count)
    (rw c.len-levels.ensures at c.in_ok-values-in-Some.ensures)
    (rw (c.len-levels.ensures, c.as_slice.ensures.value) at c.in_ok-in_coordinates-in-Some.ensures.listed)

pub returns-in-Some-clause-listed : goal.returns-in-Some-clause-listed
returns-in-Some-clause-listed c = λ dense. is_listed c

pub returns-in-Some-clause-below : goal.returns-in-Some-clause-below
returns-in-Some-clause-below c =
    let t = c.args.declared.now in
    let apart = rw (c.last_compressed-last.ensures, c.len-levels.ensures) at c.if-last-levels.false in
    rw (is_listed c)
    (closed-within t c.args.w c.requires.formed c.requires.in_range c.requires.below c.requires.ascending
    (some-levels t c.args.w c.requires.formed c.requires.in_range c.requires.below c.requires.ascending apart))

pub returns-in-Some-clause-fits : goal.returns-in-Some-clause-fits
returns-in-Some-clause-fits c =
    let t = c.args.declared.now in
    let apart = rw (c.last_compressed-last.ensures, c.len-levels.ensures) at c.if-last-levels.false in
    let many =
    listed-many t c.args.w c.requires.formed c.requires.in_range c.requires.below c.requires.ascending
    c.in_ok-fronts.fronts.numbers.items c.in_ok-fronts.fronts.count
    (rw c.last_compressed-last.ensures at c.in_ok-fronts.ensures.paths) (rw c.last_compressed-last.ensures at c.in_ok-fronts.ensures.count)
    (some-levels t c.args.w c.requires.formed c.requires.in_range c.requires.below c.requires.ascending apart) in
    let counted = rw c.last_compressed-last.ensures at c.in-Some.ensures.counted in
    let few = c.in-Some.ensures.few in
    let fits : nat_lt ENTRIES_MOST (length (closed t (listing c.args.w))) ≡ false = grind (arith, nat_tests, many, counted, few) in
    rw fits (no-more (ends_dense t))

pub returns-clause-too_large : goal.returns-clause-too_large
returns-clause-too_large c = λ refused.
    let t = c.args.declared.now in
    let apart = rw (c.last_compressed-last.ensures, c.len-levels.ensures) at c.if-last-levels.false in
    let many =
    listed-many t c.args.w c.requires.formed c.requires.in_range c.requires.below c.requires.ascending
    c.in_ok-fronts.fronts.numbers.items c.in_ok-fronts.fronts.count
    (rw c.last_compressed-last.ensures at c.in_ok-fronts.ensures.paths) (rw c.last_compressed-last.ensures at c.in_ok-fronts.ensures.count)
    (some-levels t c.args.w c.requires.formed c.requires.in_range c.requires.below c.requires.ascending apart) in
    let more = rw c.last_compressed-last.ensures at c.in-None.ensures.many in
    let past : nat_lt ENTRIES_MOST (length (closed t (listing c.args.w))) ≡ true = grind (arith, nat_tests, many, more) in
    rw (past, is-dense t c.args.w c.requires.formed c.requires.in_range c.requires.below c.requires.ascending apart) refl
