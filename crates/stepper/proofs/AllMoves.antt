-- How many moves the blocks of a machine make in all.
use Rattle.std.specs.Prelude.{◌≡◌, ◌<◌, ℕ, zero, suc, ◌+◌, true, false, cond, eqb, List, [], ◌∷◌, length, slice_get}
use Rattle.std.specs.Prelude.{get_or, Option, Some, refl}
use Rattle.std.proofs.Common.{arith, sym, ◌∙◌, ap, subst, inl, inr}
use Rattle.std.proofs.lemmas.Bool.{eq-eqb, ne_eqb, cases_eq}
use mathlib.Core.List.{map}
use Rattle.stream_tokens.specs.declared.Token.{Token}
use Rattle.sam_model.specs.Children.{Ranked}
use Rattle.block_core.specs.declared.BlockStep.{Ghosts}
use Rattle.block_core.specs.Ports.{port}
use Rattle.block_core.specs.Kind.{Kind, moves, outputs, ins_of, outs_of}
use Rattle.graph.specs.declared.graphs.Graph.{Graph}
use Rattle.graph.specs.Meaning.{meaning}
use Rattle.graph.specs.Wiring.{block, channel, WellFormed}
use Rattle.graph.specs.WholeStreams.{stream_after, whole_inputs}
use Rattle.graph.specs.Standing.{block_moves}
use Rattle.graph.proofs.Arity.{same-ins, same-outs}
use Rattle.plays.specs.Net.{State, sum_below}
use Rattle.plays.specs.Held.{Table, at_port, Held}
use Rattle.plays.proofs.Lists.{same_some, some_in}
use Rattle.plays.proofs.Sums.{sum_same}
use Rattle.stepper.specs.AtState.{AtState}
use Rattle.stepper.specs.AllMoves.{last_place, is_among, putter_of, inputs_from, read_stream_after, count_of_moves}
use Rattle.stepper.specs.AllMoves.{kind_at, all_moves}

-- ---- a place that is searched for

here_eq : (f : ℕ → ℕ) (n c : ℕ) → f n ≡ c → eqb (f n) c ≡ true
here_eq f n c e = eq-eqb (f n) c e

there_ne : (f : ℕ → ℕ) (n c : ℕ) → (f n ≡ c → ⊥) → eqb (f n) c ≡ false
there_ne f n c e = ne_eqb (f n) c e

-- where f is c at p alone
pub place_is : (f : ℕ → ℕ) (n c p : ℕ) → p < n → f p ≡ c → ((q : ℕ) → q < n → f q ≡ c → q ≡ p) → last_place f n c ≡ p
place_is f zero c p l e only = absurd (omega (arith, l))
place_is f (suc n) c p l e only = elim (cases_eq (f n) c) [
  | inl same ↦ ap (λ z. cond z n (last_place f n c)) (here_eq f n c same) ∙ only n (omega arith) same
  | inr other ↦
      let apart : p ≡ n → ⊥ = λ z. other (ap f (sym z) ∙ e) in
      ap (λ z. cond z n (last_place f n c)) (there_ne f n c other) ∙ place_is f n c p (omega (arith, apart, l)) e (λ q lq. only q (omega (arith, lq)))
]

pub has_is : (f : ℕ → ℕ) (n c p : ℕ) → p < n → f p ≡ c → is_among f n c ≡ true
has_is f zero c p l e = absurd (omega (arith, l))
has_is f (suc n) c p l e = elim (cases_eq (f n) c) [
  | inl same ↦ ap (λ z. cond z true (is_among f n c)) (here_eq f n c same)
  | inr other ↦
      let apart : p ≡ n → ⊥ = λ z. other (ap f (sym z) ∙ e) in
      ap (λ z. cond z true (is_among f n c)) (there_ne f n c other) ∙ has_is f n c p (omega (arith, apart, l)) e
]

pub has_none : (f : ℕ → ℕ) (n c : ℕ) → ((q : ℕ) → q < n → f q ≡ c → ⊥) → is_among f n c ≡ false
has_none f zero c none = refl
has_none f (suc n) c none =
    ap (λ z. cond z true (is_among f n c)) (there_ne f n c (none n (omega arith))) ∙ has_none f n c (λ q l. none q (omega (arith, l)))

pub block_is : (kind : ℕ → Kind) (outs : Table) (n c b : ℕ) → b < n → is_among (at_port outs b) (outs_of (kind b)) c ≡ true
    → ((d : ℕ) → d < n → (d ≡ b → ⊥) → is_among (at_port outs d) (outs_of (kind d)) c ≡ false) → putter_of kind outs n c ≡ b
block_is kind outs zero c b l here there = absurd (omega (arith, l))
block_is kind outs (suc n) c b l here there = elim (cases_eq n b) [
  | inl same ↦
      ap (λ z. cond z n (putter_of kind outs n c)) (subst (λ d. is_among (at_port outs d) (outs_of (kind d)) c ≡ true) (sym same) here) ∙ same
  | inr other ↦
      ap (λ z. cond z n (putter_of kind outs n c)) (there n (omega arith) other)
      ∙ block_is kind outs n c b (omega (arith, l, other)) here (λ d ld. there d (omega (arith, ld)))
]

pub row_is : (row : List ℕ) (p : ℕ) (at : ℕ → ℕ) (f g : ℕ → List Token)
    → ((i : ℕ) → i < length row → at (p + i) ≡ get_or row i 0) → ((i : ℕ) → i < length row → f (get_or row i 0) ≡ g (get_or row i 0))
    → inputs_from f at p (length row) ≡ map g row
row_is [] p at f g places same = refl
row_is (x ∷ row) p at f g places same =
    let here : at p ≡ x = let e : p + 0 ≡ p = omega arith in ap at (sym e) ∙ places 0 (omega arith) in
    let first : f (at p) ≡ g x = ap f here ∙ same 0 (omega arith) in
    let rest : inputs_from f at (suc p) (length row) ≡ map g row =
    row_is row (suc p) at f g (λ i l. let e : suc p + i ≡ p + suc i = omega arith in ap at e ∙ places (suc i) (omega (arith, l))) (λ i l. same (suc i) (omega (arith, l))) in
    ap (λ (z : List Token). z ∷ inputs_from f at (suc p) (length row)) first ∙ ap (λ (z : List (List Token)). g x ∷ z) rest

-- the kinds and the tables are a graph's
pub record Read (storages : List Ranked) (g : Graph) (kind : ℕ → Kind) (ins outs : Table) : Type 0 where
  pub kinds : (b : ℕ) → b < length g.blocks → kind b ≡ meaning storages (block g b).kind
  pub at_in : (b p : ℕ) → b < length g.blocks → p < length (block g b).ins → at_port ins b p ≡ get_or (block g b).ins p 0
  pub at_out : (b p : ℕ) → b < length g.blocks → p < length (block g b).outs → at_port outs b p ≡ get_or (block g b).outs p 0

module _ (storages : List Ranked) (g : Graph) (w : WellFormed g) (kind : ℕ → Kind) (ins outs : Table) (r : Read storages g kind ins outs) where
  sent_by : (c : ℕ) → c < length g.channels → putter_of kind outs (length g.blocks) c ≡ (channel g c).from_block
  sent_by c l =
      let from = w.came c l in
      let b : ℕ = (channel g c).from_block in
      let number : outs_of (kind b) ≡ length (block g b).outs = ap outs_of (r.kinds b from.0) ∙ sym (w.outs_number b from.0 ∙ sym (same-outs storages (block g b).kind)) in
      block_is kind outs (length g.blocks) c b from.0
      (has_is (at_port outs b) (outs_of (kind b)) c (channel g c).from_port (let h = from.1 in omega (arith, h, number)) (r.at_out b (channel g c).from_port from.0 from.1 ∙ from.2))
      (λ d ld other. has_none (at_port outs d) (outs_of (kind d)) c (λ q lq e.
      let n : outs_of (kind d) ≡ length (block g d).outs = ap outs_of (r.kinds d ld) ∙ sym (w.outs_number d ld ∙ sym (same-outs storages (block g d).kind)) in
      let lq' : q < length (block g d).outs = omega (arith, lq, n) in
      let at : get_or (block g d).outs q 0 ≡ c = sym (r.at_out d q ld lq') ∙ e in
      other (sym (w.out_named d q ld lq').1 ∙ ap (λ k. (channel g k).from_block) at)))

  sent_at : (c : ℕ) → c < length g.channels → last_place (at_port outs (channel g c).from_block) (outs_of (kind (channel g c).from_block)) c ≡ (channel g c).from_port
  sent_at c l =
      let from = w.came c l in
      let b : ℕ = (channel g c).from_block in
      let number : outs_of (kind b) ≡ length (block g b).outs = ap outs_of (r.kinds b from.0) ∙ sym (w.outs_number b from.0 ∙ sym (same-outs storages (block g b).kind)) in
      place_is (at_port outs b) (outs_of (kind b)) c (channel g c).from_port (let h = from.1 in omega (arith, h, number)) (r.at_out b (channel g c).from_port from.0 from.1 ∙ from.2)
      (λ q lq e.
      let lq' : q < length (block g b).outs = omega (arith, lq, number) in
      let at : get_or (block g b).outs q 0 ≡ c = sym (r.at_out b q from.0 lq') ∙ e in
      sym (w.out_named b q from.0 lq').2 ∙ ap (λ k. (channel g k).from_port) at)

  own_inputs : (n b : ℕ) → b < length g.blocks → ((c : ℕ) → c < length g.channels → read_stream_after (length g.blocks) kind ins outs n c ≡ stream_after storages g n c)
      → inputs_from (read_stream_after (length g.blocks) kind ins outs n) (at_port ins b) 0 (ins_of (kind b)) ≡ map (stream_after storages g n) (block g b).ins
  own_inputs n b l same =
      let number : ins_of (kind b) ≡ length (block g b).ins = ap ins_of (r.kinds b l) ∙ sym (w.ins_number b l ∙ sym (same-ins storages (block g b).kind)) in
      ap (inputs_from (read_stream_after (length g.blocks) kind ins outs n) (at_port ins b) 0) number
      ∙ row_is (block g b).ins 0 (at_port ins b) (read_stream_after (length g.blocks) kind ins outs n) (stream_after storages g n)
      (λ i li. let e : 0 + i ≡ i = omega arith in ap (at_port ins b) e ∙ r.at_in b i l li)
      (λ i li. same (get_or (block g b).ins i 0) (w.in_named b i l li).0)

  pub own_is : (n c : ℕ) → c < length g.channels → read_stream_after (length g.blocks) kind ins outs n c ≡ stream_after storages g n c
  own_is zero c l = refl
  own_is (suc n) c l =
      let from = w.came c l in
      let b : ℕ = (channel g c).from_block in
      let inputs = own_inputs n b from.0 (own_is n) in
      let here : port (last_place (at_port outs b) (outs_of (kind b)) c) (outputs (kind b) (inputs_from (read_stream_after (length g.blocks) kind ins outs n) (at_port ins b) 0 (ins_of (kind b))))
      ≡ stream_after storages g (suc n) c =
      ap (λ i. port i (outputs (kind b) (inputs_from (read_stream_after (length g.blocks) kind ins outs n) (at_port ins b) 0 (ins_of (kind b))))) (sent_at c l)
      ∙ ap (λ z. port (channel g c).from_port (outputs (kind b) z)) inputs
      ∙ ap (λ k. port (channel g c).from_port (outputs k (map (stream_after storages g n) (block g b).ins))) (r.kinds b from.0) in
      subst (λ d. port (last_place (at_port outs d) (outs_of (kind d)) c) (outputs (kind d) (inputs_from (read_stream_after (length g.blocks) kind ins outs n) (at_port ins d) 0 (ins_of (kind d))))
      ≡ stream_after storages g (suc n) c) (sym (sent_by c l)) here

  -- as many as on the graph's whole streams
  pub moves_is : count_of_moves (length g.blocks) kind ins outs ≡ sum_below (length g.blocks) (λ b. length (moves (meaning storages (block g b).kind) (whole_inputs storages g b)))
  moves_is =
      sum_same (length g.blocks)
      (λ b. length (moves (meaning storages (block g b).kind) (whole_inputs storages g b)))
      (λ b. length (moves (kind b) (inputs_from (read_stream_after (length g.blocks) kind ins outs (length g.blocks)) (at_port ins b) 0 (ins_of (kind b)))))
      (λ b l.
      ap (λ z. length (moves (kind b) z)) (own_inputs (length g.blocks) b l (own_is (length g.blocks)))
      ∙ ap (λ k. length (moves k (whole_inputs storages g b))) (r.kinds b l))

-- ---- what a machine holds

module _ {B : Type 0} (step : Ghosts B) where
  read_kind : (xs : List B) (b : ℕ) (x : B) → slice_get xs b ≡ Some x → kind_at (map step.kind xs) b ≡ step.kind x
  read_kind [] b x e = absurd (cc)
  read_kind (y ∷ xs) zero x e = ap step.kind (same_some y x e)
  read_kind (y ∷ xs) (suc b) x e = read_kind xs b x e

  -- at whatever state it stands, the moves of its blocks are those of the graph's
  pub all_moves_are : (storages : List Ranked) (g : Graph) (caps : List (Option ℕ)) (s : State) (m : Held B) → AtState step storages g caps s m
      → all_moves step.kind m ≡ sum_below (length g.blocks) (λ b. length (block_moves storages g b))
  all_moves_are storages g caps s m h =
      let number : length m.blocks ≡ length g.blocks = h.standing.number in
      let read : Read storages g (kind_at (map step.kind m.blocks)) m.routes.ins m.routes.outs = record {
        kinds = λ b l. let x = some_in m.blocks b (omega (arith, l, number)) in read_kind m.blocks b x.0 x.1 ∙ h.standing.kinds b x.0 x.1;
        at_in = λ b p l lp. h.routed.ins.same b p l lp;
        at_out = λ b p l lp. h.routed.outs.same b p l lp;
      } in
      ap (λ n. count_of_moves n (kind_at (map step.kind m.blocks)) m.routes.ins m.routes.outs) number
      ∙ moves_is storages g h.well_formed (kind_at (map step.kind m.blocks)) m.routes.ins m.routes.outs read
