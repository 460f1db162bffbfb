-- The blocks and channels of the graph of a draft by their numbers.
use Rattle.std.specs.Prelude.{◌≡◌, ◌<◌, ◌≤◌, ℕ, suc, ◌+◌, ◌-◌, Bool, true, false, cond, not, List, [], ◌∷◌, ◌++◌, length, get_or, refl}
use Rattle.std.specs.List.{flat_map, range_with_len}
use mathlib.Core.List.{map}
use Rattle.std.proofs.Common.{inl, inr, arith, sym, ◌∙◌, ap, subst, length-append}
use Rattle.std.proofs.lemmas.Bool.{cases_lt, cases_Bool}
use Rattle.std.proofs.lemmas.List.{take_all, get_or_append_left, get_or-append-add}
use Rattle.std.proofs.lemmas.List.FromFn.{length-map-range_with_len, get_or-map-range_with_len}
use Rattle.std.proofs.lemmas.List.Concat.{get_or-flat_map}
use Rattle.stream_model.specs.declared.labels.Label.{Label}
use Rattle.graph.specs.declared.graphs.Block.{Block}
use Rattle.graph.specs.declared.graphs.Channel.{Channel}
use Rattle.graph.specs.Wiring.{no_block, no_channel, block, channel}
use Rattle.custard_lower.specs.declared.drafts.Made.{Made}
use Rattle.custard_lower.specs.Drafts.{labels_of, outputs_of, label_at}
use Rattle.label_rules.specs.Labels.{no_label}
use Rattle.custard_lower.specs.Fans.{fan_block, copy_from}
use Rattle.custard_lower.specs.DraftGraph.{fan_of, no_made, made_at, first_output, has_one, ending, copies, first_copy, draft_block, added_blocks, output_channel, output_channels, copy_channels, graph_of}
use Rattle.custard_lower.proofs.draft.Pieces.{before, before-more, before-rises, item-of-piece, piece-within, in-piece, before-sum, before-same, pieces-of-items}

module _ (made : List Made) where
  -- ---- the outputs of the draft

  -- the labels of a block
  abbrev pub labels_at : ℕ → List Label
  labels_at b = (made_at made b).labels

  abbrev taken_labels : Made → List Label
  taken_labels m = m.labels

  labels_by_block : labels_of made ≡ flat_map labels_at (range_with_len 0 (length made))
  labels_by_block =
      ap (flat_map taken_labels) (sym (take_all (length made) made (omega arith)))
      ∙ sym (pieces-of-items taken_labels made no_made (length made) (omega arith))

  -- those before a block are as many as the outputs before it
  pub outputs-before : (b : ℕ) → b ≤ length made → before labels_at b ≡ first_output made b
  outputs-before b l = ap (λ (ls : List Label). length ls) (pieces-of-items taken_labels made no_made b l)

  -- in all they are as many as the outputs
  pub outputs-all : before labels_at (length made) ≡ outputs_of made
  outputs-all = ap (λ (ls : List Label). length ls) (sym labels_by_block)

  -- the outputs before a block are outputs of the draft
  pub first-output-within : (b : ℕ) → b ≤ length made → first_output made b ≤ outputs_of made
  first-output-within b l =
      omega (arith, before-rises labels_at b (length made) l, outputs-before b l, outputs-all)

  -- those of one more block
  pub first-output-next : (b : ℕ) → b < length made
      → first_output made (b + 1) ≡ first_output made b + length (made_at made b).labels
  first-output-next b l =
      let next : suc b ≡ b + 1 = omega arith in
      omega (
        arith,
        ap (first_output made) next,
        outputs-before (suc b) (omega (arith, l)),
        outputs-before b (omega (arith, l)),
        before-more labels_at b,
      )

  -- an output of a block, and the block of an output
  pub output-within : (b p : ℕ) → b < length made → p < length (made_at made b).labels → first_output made b + p < outputs_of made
  output-within b p l m =
      omega (arith, piece-within labels_at (length made) b p l m, outputs-before b (omega (arith, l)), outputs-all)

  -- its label
  pub output-label : (b p : ℕ) → b < length made → p < length (made_at made b).labels
      → label_at made (first_output made b + p) ≡ get_or (made_at made b).labels p no_label
  output-label b p l m = get_or-flat_map taken_labels made b p no_made no_label l m

  -- an output is at a port of a block
  pub record IsOutput (w : ℕ) : Type 0 where
    pub block : ℕ
    pub port : ℕ
    pub block_in : block < length made
    pub port_in : port < length (made_at made block).labels
    pub stands : w ≡ first_output made block + port

  -- each output is one of a block
  pub output-found : (w : ℕ) → w < outputs_of made → IsOutput w
  output-found w l =
      let q = in-piece labels_at (length made) w (omega (arith, l, outputs-all)) in
      record {
        block = q.piece;
        port = q.place;
        block_in = q.piece_in;
        port_in = q.place_in;
        stands = omega (arith, q.stands, outputs-before q.piece (omega (arith, q.piece_in)));
      }

  -- ---- the blocks of the graph

  abbrev first_blocks : List Block
  first_blocks = map (draft_block made) (range_with_len 0 (length made))

  abbrev last_blocks : List Block
  last_blocks = flat_map (added_blocks made) (range_with_len 0 (outputs_of made))

  first_blocks_number : length first_blocks ≡ length made
  first_blocks_number = length-map-range_with_len (draft_block made) 0 (length made)

  blocks_number : length (graph_of made).blocks ≡ length made + before (added_blocks made) (outputs_of made)
  blocks_number = let e = length-append first_blocks last_blocks in omega (arith, e, first_blocks_number)

  -- the graph has the blocks of the draft
  pub draft-blocks-within : length made ≤ length (graph_of made).blocks
  draft-blocks-within = omega (arith, blocks_number)

  -- a block of the draft, by its number
  pub block-of-draft : (b : ℕ) → b < length made → block (graph_of made) b ≡ draft_block made b
  block-of-draft b l =
      get_or_append_left first_blocks last_blocks no_block b (omega (arith, l, first_blocks_number))
      ∙ get_or-map-range_with_len (draft_block made) 0 (length made) b b no_block l (omega arith)

  later_block : (k : ℕ) → block (graph_of made) (length made + k) ≡ get_or last_blocks k no_block
  later_block k =
      ap (λ (n : ℕ). get_or (first_blocks ++ last_blocks) (n + k) no_block) (sym first_blocks_number)
      ∙ get_or-append-add first_blocks last_blocks k no_block

  added_number : (w : ℕ) → length (added_blocks made w) ≡ cond (not (has_one made w)) 1 0
  added_number w = by_case (has_one made w)
    where
      by_case : (b : Bool) → length (cond b [] (fan_block (fan_of made w) w ∷ [])) ≡ cond (not b) 1 0
      by_case true = refl
      by_case false = refl

  ending_stands : (w : ℕ) → ending made w ≡ length made + before (added_blocks made) w
  ending_stands w =
      ap (λ (k : ℕ). length made + k)
      (sym (before-sum (added_blocks made) (λ u. cond (not (has_one made u)) 1 0) added_number w))

  one_added : (w : ℕ) → has_one made w ≡ false → added_blocks made w ≡ fan_block (fan_of made w) w ∷ []
  one_added w e = rw e refl

  none_added : (w : ℕ) → has_one made w ≡ true → added_blocks made w ≡ []
  none_added w e = rw e refl

  -- the graph has the drain or cast of an output
  pub ending-within : (w : ℕ) → w < outputs_of made → has_one made w ≡ false → ending made w < length (graph_of made).blocks
  ending-within w l e =
      let one : length (added_blocks made w) ≡ 1 = ap (λ (bs : List Block). length bs) (one_added w e) in
      let within = piece-within (added_blocks made) (outputs_of made) w 0 l (omega (arith, one)) in
      omega (arith, within, ending_stands w, blocks_number)

  -- and this is it
  pub block-of-ending : (w : ℕ) → w < outputs_of made → has_one made w ≡ false
      → block (graph_of made) (ending made w) ≡ fan_block (fan_of made w) w
  block-of-ending w l e =
      let one : length (added_blocks made w) ≡ 1 = ap (λ (bs : List Block). length bs) (one_added w e) in
      let place : ending made w ≡ length made + (before (added_blocks made) w + 0) = omega (arith, ending_stands w) in
      ap (block (graph_of made)) place
      ∙ later_block (before (added_blocks made) w + 0)
      ∙ item-of-piece (added_blocks made) (outputs_of made) w 0 no_block l (omega (arith, one))
      ∙ ap (λ (bs : List Block). get_or bs 0 no_block) (one_added w e)

  -- a block that is added is the drain or cast of an output
  pub record IsEnding (x : ℕ) : Type 0 where
    pub output : ℕ
    pub output_in : output < outputs_of made
    pub ended : has_one made output ≡ false
    pub stands : x ≡ ending made output

  -- each block after those of the draft is a drain or cast
  pub ending-found : (x : ℕ) → length made ≤ x → x < length (graph_of made).blocks → IsEnding x
  ending-found x l m =
      let q = in-piece (added_blocks made) (outputs_of made) (x - length made) (omega (arith, l, m, blocks_number)) in
      elim (cases_Bool (has_one made q.piece)) [
        | inl e ↦
            let none : length (added_blocks made q.piece) ≡ 0 = ap (λ (bs : List Block). length bs) (none_added q.piece e) in
            absurd (omega (arith, q.place_in, none))
        | inr e ↦
            let one : length (added_blocks made q.piece) ≡ 1 = ap (λ (bs : List Block). length bs) (one_added q.piece e) in
            record {
              output = q.piece;
              output_in = q.piece_in;
              ended = e;
              stands = omega (arith, l, q.stands, q.place_in, one, ending_stands q.piece);
            }
      ]

  -- ---- the channels of the graph

  -- the channels of the outputs, and those from casts
  abbrev pub first_channels : List Channel
  first_channels = flat_map (output_channels made) (range_with_len 0 (length made))

  abbrev pub last_channels : List Channel
  last_channels = flat_map (copy_channels made) (range_with_len 0 (outputs_of made))

  output_number : (b : ℕ) → length (output_channels made b) ≡ length (made_at made b).labels
  output_number b = length-map-range_with_len (output_channel made b) 0 (length (made_at made b).labels)

  -- how many there are
  pub first-channels-number : length first_channels ≡ outputs_of made
  first-channels-number = before-same (output_channels made) labels_at output_number (length made) ∙ outputs-all

  -- those of all outputs, and the copies
  pub channels-number : length (graph_of made).channels ≡ outputs_of made + before (copy_channels made) (outputs_of made)
  channels-number = let e = length-append first_channels last_channels in omega (arith, e, first-channels-number)

  -- the channels of the outputs before a block
  pub channels-before : (b : ℕ) → b ≤ length made → before (output_channels made) b ≡ first_output made b
  channels-before b l = before-same (output_channels made) labels_at output_number b ∙ outputs-before b l

  -- the channel of an output, by its number
  pub channel-of-output : (b p : ℕ) → b < length made → p < length (made_at made b).labels
      → channel (graph_of made) (first_output made b + p) ≡ output_channel made b p
  channel-of-output b p l m =
      get_or_append_left first_channels last_channels no_channel (first_output made b + p)
      (omega (arith, first-channels-number, output-within b p l m))
      ∙ ap (λ (n : ℕ). get_or first_channels (n + p) no_channel) (sym (channels-before b (omega (arith, l))))
      ∙ item-of-piece (output_channels made) (length made) b p no_channel l (omega (arith, m, output_number b))
      ∙ get_or-map-range_with_len (output_channel made b) 0 (length (made_at made b).labels) p p no_channel m (omega arith)

  copy_number : (w : ℕ) → length (copy_channels made w) ≡ copies made w
  copy_number w = length-map-range_with_len (copy_from (fan_of made w) (label_at made w)) 0 (copies made w)

  copy_stands : (w : ℕ) → first_copy made w ≡ outputs_of made + before (copy_channels made) w
  copy_stands w = ap (λ (k : ℕ). outputs_of made + k) (sym (before-sum (copy_channels made) (copies made) copy_number w))

  -- a channel from a cast, by its number
  pub copy-within : (w i : ℕ) → w < outputs_of made → i < copies made w → first_copy made w + i < length (graph_of made).channels
  copy-within w i l m =
      let within = piece-within (copy_channels made) (outputs_of made) w i l (omega (arith, m, copy_number w)) in
      omega (arith, within, copy_stands w, channels-number)

  -- and it is that of the copy
  pub channel-of-copy : (w i : ℕ) → w < outputs_of made → i < copies made w
      → channel (graph_of made) (first_copy made w + i) ≡ copy_from (fan_of made w) (label_at made w) i
  channel-of-copy w i l m =
      let place : first_copy made w + i ≡ outputs_of made + (before (copy_channels made) w + i) = omega (arith, copy_stands w) in
      ap (channel (graph_of made)) place
      ∙ ap (λ (n : ℕ). get_or (first_channels ++ last_channels) (n + (before (copy_channels made) w + i)) no_channel)
      (sym first-channels-number)
      ∙ get_or-append-add first_channels last_channels (before (copy_channels made) w + i) no_channel
      ∙ item-of-piece (copy_channels made) (outputs_of made) w i no_channel l (omega (arith, m, copy_number w))
      ∙ get_or-map-range_with_len (copy_from (fan_of made w) (label_at made w)) 0 (copies made w) i i no_channel m (omega arith)

  -- a channel after those of the outputs is that of a copy
  pub record IsCopy (c : ℕ) : Type 0 where
    pub output : ℕ
    pub place : ℕ
    pub output_in : output < outputs_of made
    pub place_in : place < copies made output
    pub stands : c ≡ first_copy made output + place

  -- each channel after those of the outputs is found so
  pub copy-found : (c : ℕ) → outputs_of made ≤ c → c < length (graph_of made).channels → IsCopy c
  copy-found c l m =
      let q = in-piece (copy_channels made) (outputs_of made) (c - outputs_of made) (omega (arith, l, m, channels-number)) in
      record {
        output = q.piece;
        place = q.place;
        output_in = q.piece_in;
        place_in = omega (arith, q.place_in, copy_number q.piece);
        stands = omega (arith, l, q.stands, copy_stands q.piece);
      }

  -- ---- all blocks and channels

  -- the blocks and channels by the numbers that follow the last
  pub blocks-end : length (graph_of made).blocks ≡ ending made (outputs_of made)
  blocks-end = blocks_number ∙ sym (ending_stands (outputs_of made))

  -- and so are all channels
  pub channels-end : length (graph_of made).channels ≡ first_copy made (outputs_of made)
  channels-end = channels-number ∙ sym (copy_stands (outputs_of made))

  -- what holds of the blocks of the draft and of the drains and casts holds of all blocks
  pub all-blocks : (P : ℕ → Type 0) → ((b : ℕ) → b < length made → P b)
      → ((w : ℕ) → w < outputs_of made → has_one made w ≡ false → P (ending made w))
      → (x : ℕ) → x < length (graph_of made).blocks → P x
  all-blocks P first last x l =
      elim (cases_lt x (length made)) [
        | inl less ↦ first x less
        | inr past ↦ let q = ending-found x past l in subst P (sym q.stands) (last q.output q.output_in q.ended)
      ]

  -- and what holds of the channels of the outputs and of the copies holds of all channels
  pub all-channels : (P : ℕ → Type 0) → ((c : ℕ) → c < outputs_of made → P c)
      → ((w i : ℕ) → w < outputs_of made → i < copies made w → P (first_copy made w + i))
      → (c : ℕ) → c < length (graph_of made).channels → P c
  all-channels P first last c l =
      elim (cases_lt c (outputs_of made)) [
        | inl less ↦ first c less
        | inr past ↦ let q = copy-found c past l in subst P (sym q.stands) (last q.output q.place q.output_in q.place_in)
      ]
