-- A graph's blocks are ready on its wires, and where the works have ended they stand after all their moves.
use Rattle.std.proofs.Common.{◌≡◌, ℕ, zero, suc, ◌<◌, false, List, [], ◌∷◌, map, length, refl, sym, ap, ◌∙◌, subst, arith}
use Rattle.std.proofs.lemmas.List.FromFn.{length-map-range_with_len}
use Rattle.std.specs.Prelude.{Some, slice_get, Result, Ok, Err, IfOk}
use Rattle.std.specs.List.{All, Contains}
use Rattle.std.proofs.lemmas.Option.{slice_get_within}
use Rattle.stream_tokens.specs.declared.Token.{Token}
use Rattle.sam_model.specs.Children.{Ranked}
use Rattle.block_core.specs.declared.BlockStep.{Ghosts}
use Rattle.block_core.specs.Ports.{Streams, AllStreams}
use Rattle.block_core.specs.Kind.{Kind, moves, outputs}
use Rattle.graph.specs.declared.graphs.Graph.{Graph}
use Rattle.graph.specs.Meaning.{meaning}
use Rattle.graph.specs.Wiring.{block, WellFormed}
use Rattle.graph.specs.WholeStreams.{whole_inputs, Consistent}
use Rattle.graph.specs.Standing.{StandAt, start_position, final_position}
use Rattle.plays.proofs.Lists.{same_some, some_in}
use Rattle.stepper.specs.AllMoves.{kind_at}
use Rattle.ruled_wires.specs.Ends.{fresh_end}
use Rattle.block_threads.specs.declared.nest.Job.{Job}
use Rattle.block_threads.specs.declared.nest.Task.{Task}
use Rattle.block_threads.specs.declared.nest.Task.TheVariants.{Ready, Ended}
use Rattle.block_threads.specs.declared.working.Worked.{Worked}
use Rattle.block_threads.specs.Ports.{streams_of, IsFresh}
use Rattle.block_threads.specs.Tasks.{IsReady, EndsAs, AreReady, HaveRun}
use Rattle.block_threads.specs.Wires.{wired_stream_after, wired_streams, HasWires}
use Rattle.block_threads.proofs.Whole.{ins_are, outs_given, outs_streams}

fresh_map : (cs : List ℕ) → All IsFresh (map fresh_end cs)
fresh_map [] p d less = absurd (omega arith)
fresh_map (c ∷ cs) zero d less = refl
fresh_map (c ∷ cs) (suc p) d less = fresh_map cs p d (omega arith)

pub IfOk-both : {A E : Type 0} (r : Result A E) (P Q R : A → Type 0) → IfOk r P → IfOk r Q → ((a : A) → P a → Q a → R a) → IfOk r R
IfOk-both (Ok a) P Q R p q f = f a p q
IfOk-both (Err e) P Q R p q f = tt

pub wired_length : (kinds : List Kind) (g : Graph) → length (wired_streams kinds g) ≡ length g.channels
wired_length kinds g = length-map-range_with_len (wired_stream_after kinds g (length g.blocks)) 0 (length g.channels)

module _ {B : Type 0} (step : Ghosts B) (storages : List Ranked) (g : Graph) (w : WellFormed g) (blocks : List B)
    (stand : StandAt step.kind step.stands storages g start_position blocks) where
  read_kind : (xs : List B) (b : ℕ) (x : B) → slice_get xs b ≡ Some x → kind_at (map step.kind xs) b ≡ step.kind x
  read_kind [] b x e = absurd (cc)
  read_kind (y ∷ xs) zero x e = ap step.kind (same_some y x e)
  read_kind (y ∷ xs) (suc b) x e = read_kind xs b x e

  kinds_are : (b : ℕ) → b < length g.blocks → kind_at (map step.kind blocks) b ≡ meaning storages (block g b).kind
  kinds_are b less =
      let number = stand.number in
      let x = some_in blocks b (omega (arith, less, number)) in
      read_kind blocks b x.0 x.1 ∙ stand.kinds b x.0 x.1

  abbrev Ss : List (List Token)
  Ss = wired_streams (map step.kind blocks) g

  module _ {W : Type 0} (b : ℕ) (x : B) (at : slice_get blocks b ≡ Some x) (j : Job W B) (own : j.block ≡ x) (wires : HasWires g b j.ins.items j.outs.items) where
    below : b < length g.blocks
    below = let number = stand.number in let less = slice_get_within blocks b x at in omega (arith, number, less)

    inputs_are : streams_of Ss j.ins.items ≡ whole_inputs storages g b
    inputs_are = ap (streams_of Ss) wires.inputs ∙ ins_are storages g (map step.kind blocks) w kinds_are b below

    kind_is : step.kind j.block ≡ meaning storages (block g b).kind
    kind_is = ap step.kind own ∙ stand.kinds b x at

    is_ready : Consistent storages g → IsReady step Ss j
    is_ready consistent = record {
      wired = record {
        stands = subst (λ (q : B × Streams). step.stands q.0 q.1 0) (λ i. (sym own i, sym inputs_are i)) (stand.placed b x at);
        gives = ap (streams_of Ss) wires.outputs ∙ outs_given storages g (map step.kind blocks) w kinds_are b below
            ∙ ap (λ (q : Kind × Streams). outputs q.0 q.1) (λ i. (sym kind_is i, sym inputs_are i));
        whole = subst AllStreams (sym (ap (streams_of Ss) wires.outputs)) (outs_streams storages g (map step.kind blocks) w kinds_are b below consistent);
      };
      fresh_ins = subst (All IsFresh) (sym wires.inputs) (fresh_map (block g b).ins);
      fresh_outs = subst (All IsFresh) (sym wires.outputs) (fresh_map (block g b).outs);
    }

    ends_placed : (v : Worked W B) → EndsAs step Ss j v → v.lost ≡ false → step.stands v.block (whole_inputs storages g b) (final_position storages g b)
    ends_placed v e kept =
        subst (λ (q : Kind × Streams). step.stands v.block q.1 (length (moves q.0 q.1))) (λ i. (kind_is i, inputs_are i)) (e.finished kept)

    ends_kind : (v : Worked W B) → EndsAs step Ss j v → step.kind v.block ≡ meaning storages (block g b).kind
    ends_kind v e = e.same_kind ∙ kind_is

  abbrev Jobs : {W : Type 0} → List (Task W B) → Type 0
  Jobs {W = W} tasks = (b : ℕ) (x : B) → slice_get blocks b ≡ Some x → (j : Job W B) × (slice_get tasks b ≡ Some (Ready j)) × (j.block ≡ x) × HasWires g b j.ins.items j.outs.items

  pub all_ready : {W : Type 0} (tasks : List (Task W B)) → Consistent storages g → length tasks ≡ length blocks → Jobs tasks → AreReady step Ss tasks
  all_ready {W = W} tasks consistent number jobs b j at =
      let less = slice_get_within tasks b (Ready j) at in
      let x = some_in blocks b (omega (arith, less, number)) in
      let k = jobs b x.0 x.1 in
      let are : Ready k.0 ≡ Ready j = same_some (Ready k.0) (Ready j) (sym k.1 ∙ at) in
      let same : k.0 ≡ j = cc in
      subst (IsReady step Ss) same (is_ready b x.0 x.1 k.0 k.2 k.3 consistent)

  module _ {W : Type 0} (order : List ℕ) (tasks ends : List (Task W B)) (number : length tasks ≡ length blocks) (jobs : Jobs tasks)
      (all : (b : ℕ) → b < length g.blocks → Contains order b) (ran : HaveRun step Ss order tasks ends) where
    pub all_ended : (b : ℕ) → b < length ends → (v : Worked W B) × (slice_get ends b ≡ Some (Ended v))
    all_ended b less =
        let run = ran.number in
        let own = stand.number in
        let x = some_in blocks b (omega (arith, less, run, number)) in
        let k = jobs b x.0 x.1 in
        let r = ran.ran b k.0 (all b (omega (arith, less, run, number, own))) k.1 in
        (r.0, r.1)

    module _ (done : List B) (as_many : length done ≡ length ends)
        (back : (b : ℕ) (v : Worked W B) → slice_get ends b ≡ Some (Ended v) → (slice_get done b ≡ Some v.block) × (v.lost ≡ false)) where
      abbrev Found : ℕ → B → Type 0
      Found b y =
          (a : (x : B) × (slice_get blocks b ≡ Some x) × ((j : Job W B) × (j.block ≡ x) × HasWires g b j.ins.items j.outs.items))
          × (v : (v : Worked W B) × EndsAs step Ss a.2.0 v × (v.lost ≡ false)) × (v.0.block ≡ y)

      found : (b : ℕ) (y : B) → slice_get done b ≡ Some y → Found b y
      found b y at =
          let run = ran.number in
          let own = stand.number in
          let less = slice_get_within done b y at in
          let x = some_in blocks b (omega (arith, less, as_many, run, number)) in
          let k = jobs b x.0 x.1 in
          let r = ran.ran b k.0 (all b (omega (arith, less, as_many, run, number, own))) k.1 in
          let given = back b r.0 r.1 in
          ((x.0, x.1, (k.0, k.2, k.3)), (r.0, r.2, given.1), same_some r.0.block y (sym given.0 ∙ at))

      pub all_finished : StandAt step.kind step.stands storages g (final_position storages g) done
      all_finished = record {
        number = as_many ∙ ran.number ∙ number ∙ stand.number;
        kinds = λ b y at.
            let f = found b y at in subst (λ z. step.kind z ≡ meaning storages (block g b).kind) f.2 (ends_kind b f.0.0 f.0.1 f.0.2.0 f.0.2.1 f.0.2.2 f.1.0 f.1.1);
        placed = λ b y at.
            let f = found b y at in subst (λ z. step.stands z (whole_inputs storages g b) (final_position storages g b)) f.2
            (ends_placed b f.0.0 f.0.1 f.0.2.0 f.0.2.1 f.0.2.2 f.1.0 f.1.1 f.1.2);
      }
