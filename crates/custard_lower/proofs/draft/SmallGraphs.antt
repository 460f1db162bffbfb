-- Small drafts: how many reads there are, and that the graph's blocks and channels are counted in 32 bits.
use Rattle.std.specs.Prelude.{◌≡◌, ◌<◌, ◌≤◌, ◌^◌, ℕ, zero, suc, ◌+◌, List, [], ◌∷◌, ◌++◌, length, take, refl}
use Rattle.std.specs.List.{All, flat_map}
use Rattle.std.proofs.Common.{arith, ◌∙◌, ap, length-append, take-suc, take_all}
use Rattle.stream_model.specs.declared.labels.Label.{Label}
use Rattle.custard_lower.specs.declared.drafts.Made.{Made}
use Rattle.custard_lower.specs.Drafts.{labels_of, outputs_of}
use Rattle.custard_lower.specs.DraftGraph.{ReadsWithin, DraftIsSmall, no_made, made_at, reads_at, reads_of, graph_of}
use Rattle.custard_lower.proofs.draft.Pieces.{before}
use Rattle.custard_lower.proofs.draft.Readers.{block-reads}
use Rattle.label_rules.specs.Holding.{Rules}
use Rattle.custard_lower.proofs.draft.Emitted.{Ruled}
use Rattle.custard_lower.proofs.draft.GraphPlaces.{blocks-end, channels-end}
use Rattle.custard_lower.proofs.draft.FanSteps.{ending-fits, first-copy-fits}

-- the blocks of the graph of a small draft are counted in 32 bits
pub small-blocks : (made : List Made) → DraftIsSmall made → length (graph_of made).blocks < 2 ^ 32
small-blocks made small =
    let e = blocks-end made in let f = ending-fits made small (outputs_of made) (omega arith) in omega (arith, e, f)

-- and so are its channels
pub small-channels : (made : List Made) → DraftIsSmall made → length (graph_of made).channels < 2 ^ 32
small-channels made small =
    let e = channels-end made in let f = first-copy-fits made small (outputs_of made) in omega (arith, e, f)

-- the blocks of a draft within the rules read outputs that are there
ruled_reads : (rules : Rules) (labels : ℕ → Label) (base total : ℕ) (made : List Made)
    → Ruled rules labels base made → base + outputs_of made ≤ total → All (λ m. All (λ w. w < total) m.ins) made
ruled_reads rules labels base total [] x l k d i = absurd (omega (arith, i))
ruled_reads rules labels base total (m ∷ made) x l zero d i =
    λ j e n. let here = x.0.earlier j e n in let a = length-append m.labels (labels_of made) in omega (arith, here, l, a)
ruled_reads rules labels base total (m ∷ made) x l (suc k) d i =
    let a = length-append m.labels (labels_of made) in
    ruled_reads rules labels (base + length m.labels) total made x.1 (omega (arith, l, a)) k d (omega (arith, i))

-- so the draft does
pub reads-of-ruled : (rules : Rules) (labels : ℕ → Label) (made : List Made) → Ruled rules labels 0 made → ReadsWithin made
reads-of-ruled rules labels made x = ruled_reads rules labels 0 (outputs_of made) made x (omega arith)

-- ---- counting

-- how many outputs the blocks read in all
abbrev pub read_count : List Made → ℕ
read_count made = length (flat_map (λ m. m.ins) made)

reads_append : (made : List Made) (m : Made) → read_count (made ++ m ∷ []) ≡ read_count made + length m.ins
reads_append [] m = length-append m.ins [] ∙ omega arith
reads_append (x ∷ made) m =
    length-append x.ins (flat_map (λ m. m.ins) (made ++ m ∷ []))
    ∙ (let r = reads_append made m in let a = length-append x.ins (flat_map (λ m. m.ins) made) in omega (arith, r, a))

-- all reads are counted
reads_counted : (made : List Made) (k : ℕ) → k ≤ length made → before (reads_at made) k ≡ read_count (take k made)
reads_counted made zero l = refl
reads_counted made (suc k) l =
    let next : k + 1 ≡ suc k = omega arith in
    let rest = reads_counted made k (omega (arith, l)) in
    let one = block-reads made k in
    let more = ap read_count (take-suc made k no_made l) ∙ reads_append (take k made) (made_at made k) in
    let same = ap (before (reads_at made)) next in
    omega (arith, rest, one, more, same)

-- there are as many reads as the blocks have inputs
pub read-number : (made : List Made) → length (reads_of made) ≡ read_count made
read-number made = reads_counted made (length made) (omega arith) ∙ ap read_count (take_all (length made) made (omega arith))
