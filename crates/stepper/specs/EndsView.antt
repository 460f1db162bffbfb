-- What contracts see of the ends of channels at one block's ports.
use Rattle.plays.specs.Rest.{BlockEnds}
use Rattle.stepper.specs.declared.tap.Tap.{Ghosts}
use Rattle.stepper.specs.declared.ends.Ends.{Ends}

abbrev pub seen : {T : Type 0} → Ghosts T → Ends T → BlockEnds
seen tap v = record {
  queues = v.queues.now.items;
  told = tap.told v.tap.now;
  moves = v.moves;
  block = v.block;
  ins = v.ins.now;
  outs = v.outs.now;
}
