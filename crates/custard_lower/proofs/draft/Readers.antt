-- The readers of an output of a draft, and their places.
use Rattle.std.specs.Prelude.{◌≡◌, ◌<◌, ◌≤◌, ℕ, suc, ◌+◌, Bool, true, List, length, get_or, eqb, refl}
use Rattle.std.specs.List.{All, position_or_len}
use Rattle.std.proofs.Common.{arith, sym, ◌∙◌, ap}
use Rattle.std.proofs.lemmas.Bool.{and_parts, and_from, eqb-true, eq-eqb, false_from_ne_true}
use Rattle.std.proofs.lemmas.List.Elements.{All-get_or, All-from_get_or}
use Rattle.std.proofs.lemmas.List.Sums.{position_or_len_is}
use Rattle.std.proofs.lemmas.List.FromFn.{length-map-range_with_len, get_or-map-range_with_len}
use Rattle.custard_lower.specs.declared.drafts.Made.{Made}
use Rattle.custard_lower.specs.declared.fans.Read.{Read}
use Rattle.custard_lower.specs.Drafts.{outputs_of}
use Rattle.custard_lower.specs.Fans.{no_read}
use Rattle.custard_lower.specs.DraftGraph.{no_made, ReadsWithin, made_at, read_at, reads_at, reads_of, readers, reader, same_port, reader_place}
use Rattle.custard_lower.proofs.draft.Pieces.{before, before-more, before-rises, item-of-piece, piece-within, in-piece, passed, item-of-filter, in-filter}

-- whether a read is of an output
abbrev of_output : ℕ → Read → Bool
of_output w r = eqb r.output w

module _ (made : List Made) where
  -- how many reads of an output come before those of a port
  abbrev pub earlier : ℕ → ℕ → ℕ → ℕ
  earlier w b p = passed (of_output w) (reads_of made) (before (reads_at made) b + p)

  reads_number : (b : ℕ) → length (reads_at made b) ≡ length (made_at made b).ins
  reads_number b = length-map-range_with_len (read_at made b) 0 (length (made_at made b).ins)

  -- the read of a port, among those of its block
  pub read-at-port : (b p : ℕ) → p < length (made_at made b).ins → get_or (reads_at made b) p no_read ≡ read_at made b p
  read-at-port b p l = get_or-map-range_with_len (read_at made b) 0 (length (made_at made b).ins) p p no_read l (omega arith)

  -- and among all
  read_of_port : (b p : ℕ) → b < length made → p < length (made_at made b).ins
      → get_or (reads_of made) (before (reads_at made) b + p) no_read ≡ read_at made b p
  read_of_port b p l m =
      item-of-piece (reads_at made) (length made) b p no_read l (omega (arith, m, reads_number b)) ∙ read-at-port b p m

  -- each read is that of a port
  pub record IsRead (k : ℕ) : Type 0 where
    pub block : ℕ
    pub port : ℕ
    pub block_in : block < length made
    pub port_in : port < length (made_at made block).ins
    pub stands : k ≡ before (reads_at made) block + port
    pub same : get_or (reads_of made) k no_read ≡ read_at made block port

  -- each read is found so
  pub read-found : (k : ℕ) → k < length (reads_of made) → IsRead k
  read-found k l =
      let q = in-piece (reads_at made) (length made) k l in
      let port_in : q.place < length (made_at made q.piece).ins = omega (arith, q.place_in, reads_number q.piece) in
      record {
        block = q.piece;
        port = q.place;
        block_in = q.piece_in;
        port_in = port_in;
        stands = q.stands;
        same = ap (λ (k : ℕ). get_or (reads_of made) k no_read) q.stands ∙ read_of_port q.piece q.place q.piece_in port_in;
      }

  -- the reads before a block, and its own
  pub block-reads : (b : ℕ) → before (reads_at made) (b + 1) ≡ before (reads_at made) b + length (made_at made b).ins
  block-reads b =
      let next : suc b ≡ b + 1 = omega arith in
      omega (arith, ap (before (reads_at made)) next, before-more (reads_at made) b, reads_number b)

  -- the reads of a block are among all reads
  pub block-reads-within : (b : ℕ) → b < length made
      → before (reads_at made) b + length (made_at made b).ins ≤ length (reads_of made)
  block-reads-within b l =
      omega (arith, before-rises (reads_at made) (b + 1) (length made) (omega (arith, l)), block-reads b)

  -- a port reads an output that is there, and so do all reads
  pub ports-within : ReadsWithin made → (b p : ℕ) → b < length made → p < length (made_at made b).ins
      → get_or (made_at made b).ins p 0 < outputs_of made
  ports-within within b p l m =
      All-get_or (λ w. w < outputs_of made) (made_at made b).ins p 0 m
      (All-get_or (λ (m : Made). All (λ w. w < outputs_of made) m.ins) made b no_made l within)

  -- each read is of an output that is there
  pub reads-within : ReadsWithin made → All (λ r. r.output < outputs_of made) (reads_of made)
  reads-within within =
      All-from_get_or (λ (r : Read). r.output < outputs_of made) (reads_of made) no_read
      (λ k l.
      let r = read-found k l in
      omega (arith, ap (λ (r : Read). r.output) r.same, ports-within within r.block r.port r.block_in r.port_in))

  -- the i-th reader of an output is a port that reads it
  pub record IsReader (w i : ℕ) : Type 0 where
    pub block : ℕ
    pub port : ℕ
    pub block_in : block < length made
    pub port_in : port < length (made_at made block).ins
    pub reads : get_or (made_at made block).ins port 0 ≡ w
    pub stands : i ≡ earlier w block port
    pub same : reader made w i ≡ read_at made block port

  -- each reader is found so
  pub reader-found : (w i : ℕ) → i < length (readers made w) → IsReader w i
  reader-found w i l =
      let f = in-filter (of_output w) (reads_of made) no_read i l in
      let r = read-found f.place f.place_in in
      record {
        block = r.block;
        port = r.port;
        block_in = r.block_in;
        port_in = r.port_in;
        reads = ap (λ (r : Read). r.output) (sym r.same) ∙ eqb-true _ _ f.passes;
        stands = f.stands ∙ ap (passed (of_output w) (reads_of made)) r.stands;
        same = f.same ∙ r.same;
      }

  -- a port that reads an output is among its readers, after those before it
  pub reader-there : (w b p : ℕ) → b < length made → p < length (made_at made b).ins → get_or (made_at made b).ins p 0 ≡ w
      → (earlier w b p < length (readers made w)) × (reader made w (earlier w b p) ≡ read_at made b p)
  reader-there w b p l m e =
      let k = before (reads_at made) b + p in
      let is = read_of_port b p l m in
      let within : k < length (reads_of made) =
      piece-within (reads_at made) (length made) b p l (omega (arith, m, reads_number b)) in
      let r = item-of-filter (of_output w) (reads_of made) k no_read within (eq-eqb _ _ (ap (λ (r : Read). r.output) is ∙ e)) in
      (r.0, r.1 ∙ is)

  -- no two readers are one port
  apart : (w i k : ℕ) → i < length (readers made w) → k < length (readers made w)
      → same_port (reader made w i) (reader made w k) ≡ true → i ≡ k
  apart w i k l m t =
      let f = reader-found w i l in
      let g = reader-found w k m in
      let r = reader made w i in
      let s = reader made w k in
      let parts = and_parts (eqb r.block s.block) (eqb r.port s.port) t in
      let blocks : f.block ≡ g.block =
      ap (λ (r : Read). r.block) (sym f.same) ∙ eqb-true _ _ parts.0 ∙ ap (λ (r : Read). r.block) g.same in
      let ports : f.port ≡ g.port =
      ap (λ (r : Read). r.port) (sym f.same) ∙ eqb-true _ _ parts.1 ∙ ap (λ (r : Read). r.port) g.same in
      f.stands ∙ ap (λ (b : ℕ). earlier w b f.port) blocks ∙ ap (λ (p : ℕ). earlier w g.block p) ports ∙ sym g.stands

  same_as_itself : (r : Read) → same_port r r ≡ true
  same_as_itself r = and_from (eqb r.block r.block) (eqb r.port r.port) (eq-eqb _ _ refl) (eq-eqb _ _ refl)

  place_among : (w i : ℕ) → i < length (readers made w) → position_or_len (same_port (reader made w i)) (readers made w) ≡ i
  place_among w i l =
      position_or_len_is (same_port (reader made w i)) (readers made w) i no_read (omega (arith, l))
      (λ k h.
      false_from_ne_true (same_port (reader made w i) (reader made w k))
      (λ t. let e = apart w i k l (omega (arith, h, l)) t in omega (arith, e, h)))
      (λ h. same_as_itself (reader made w i))

  -- the place of a reader
  pub reader-place : (w i : ℕ) → i < length (readers made w) → reader_place made (reader made w i) ≡ i
  reader-place w i l =
      let f = reader-found w i l in
      let of : (reader made w i).output ≡ w = ap (λ (r : Read). r.output) f.same ∙ f.reads in
      ap (λ (v : ℕ). position_or_len (same_port (reader made w i)) (readers made v)) of ∙ place_among w i l

  -- and that of a port that reads
  pub port-place : (w b p : ℕ) → b < length made → p < length (made_at made b).ins → get_or (made_at made b).ins p 0 ≡ w
      → reader_place made (read_at made b p) ≡ earlier w b p
  port-place w b p l m e =
      let there = reader-there w b p l m e in
      ap (reader_place made) (sym there.1) ∙ reader-place w (earlier w b p) there.0
