-- What a pass of a wire knows.
use Rattle.crossbeam_channel.specs.Claims.{Pass, view}
use Rattle.ruled_wires.specs.declared.known.Known.{Known}
use Rattle.ruled_wires.specs.declared.message.Message.{Message}

abbrev pub known : Pass Message Known → Known
known p = view p
