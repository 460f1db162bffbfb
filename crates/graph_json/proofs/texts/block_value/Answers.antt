use Rattle.std.proofs.Common.{sym, subst}
use Rattle.std.specs.Prelude.{IsUtf8}
use Rattle.graph_json.proofs.NameLemmas.{kind_name-utf8}
use Rattle.graph_json.proofs.texts.block_value.Goals as goal

pub text-requires : goal.text-requires
text-requires c = subst IsUtf8 (sym c.kind_name.ensures) (kind_name-utf8 c.args.p.now c.args.block.now.kind c.requires)
