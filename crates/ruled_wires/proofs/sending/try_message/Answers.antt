use Rattle.crossbeam_channel.specs.Ends.{sends_on, ruled_capacity}
use Rattle.ruled_wires.specs.Passes.{known}
use Rattle.ruled_wires.proofs.Keeping.{pushes}
use Rattle.ruled_wires.proofs.sending.try_message.Goals as goal

pub try_send_as-requires-clause-rule : goal.try_send_as-requires-clause-rule
try_send_as-requires-clause-rule g c = (
  pushes (ruled_capacity (sends_on c.args.sender.now)) c.args.pass.now.id (known c.args.pass.now) c.requires.sends c.requires.capacity c.requires.unlost
      c.args.message c.requires.sized c.requires.next,
  λ items views h at. tt,
)
