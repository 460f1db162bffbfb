use Rattle.std.proofs.Common.{◌∙◌, sym, ap, refl, get_or, arith}
use Rattle.std.proofs.lemmas.Option.{get_or_from_slice_get}
use Rattle.std.proofs.lemmas.Option.{slice_get_read}
use Rattle.plays.specs.Held.{Queued}
use Rattle.plays.specs.Rest.{no_queue}
use Rattle.plays.proofs.Rests.{input_port, input_queue}
use Rattle.stepper.proofs.ends.EndsPorts.waiting.Goals as goal

pub bounds-self-port : goal.bounds-self-port
bounds-self-port g c = input_port _ c.args.port c.requires

pub index-requires : goal.index-requires
index-requires g c = let l = input_queue _ c.args.port c.requires in omega (arith, l)

pub returns : goal.returns
returns g c =
    let l = input_queue _ c.args.port c.requires in
    let q = slice_get_read c.args.self.now.queues.now.items _ (get_or c.args.self.now.ins.now c.args.port 0) c.index.result.now refl l c.index.ensures in
    let r = get_or_from_slice_get c.args.self.now.queues.now.items (get_or c.args.self.now.ins.now c.args.port 0) c.index.result.now no_queue q in
    let t = c.together.ensures in
    (t.0, t.1 ∙ ap (λ (z : Queued). z.tokens) (sym r))
