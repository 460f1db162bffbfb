use Rattle.std.proofs.Common.{◌∙◌, sym, subst}
use Rattle.std.specs.Prelude.{IsUtf8}
use Rattle.graph_json.proofs.LabelTexts.{text_of_label-utf8}
use Rattle.graph_json.proofs.texts.label_value.Goals as goal

pub text-requires : goal.text-requires
text-requires c = subst IsUtf8 (sym (c.as_bytes.ensures ∙ c.in_ok-words.ensures)) (text_of_label-utf8 c.args.label)
