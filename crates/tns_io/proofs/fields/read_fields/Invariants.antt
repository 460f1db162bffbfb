use Rattle.std.proofs.Common.{◌≡◌, ◌+◌, drop, length}
use Rattle.sam_text.specs.Words.{words}
use Rattle.tns_io.specs.Fields.{fields_of}
use Rattle.tns_io.specs.Answers.{coordinates_then}
use Rattle.tns_io.proofs.fields.read_fields.Given as goal

abbrev pub invariant-loop-size : goal.invariant-loop-size
invariant-loop-size l = record {
  read : coordinates_then l.coords.items (fields_of (drop l.size-index l.sizes) (words l.rest))
      ≡ coordinates_then l.initial.coords.items (fields_of l.sizes (words l.line));
  counted : length (words l.line) ≡ l.size-index + length (words l.rest);
}
