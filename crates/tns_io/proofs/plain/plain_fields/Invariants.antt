use Rattle.std.proofs.Common.{◌≡◌, ◌≤◌, ◌+◌, ◌-◌, take, drop, length}
use Rattle.std.specs.List.{before_first, after_first}
use Rattle.std.specs.Vec.{vec_len, vec_capacity}
use Rattle.sam_text.specs.Bytes.{is_newline}
use Rattle.sam_text.specs.Words.{words}
use Rattle.tns_io.specs.Answers.{coordinates_then}
use Rattle.tns_io.specs.Fields.{fields_of}
use Rattle.tns_io.proofs.plain.plain_fields.Given as goal

abbrev pub invariant-loop-size : goal.invariant-loop-size
invariant-loop-size l = record {
  room : vec_len l.coords + (length l.sizes - l.size-index) ≤ vec_capacity l.coords;
  place : l.from ≤ l.at;
  in_text : l.at ≤ length l.text;
  read : coordinates_then l.coords.items (fields_of (drop l.size-index l.sizes) (words (before_first is_newline (drop l.at l.text))))
      ≡ coordinates_then l.initial.coords.items (fields_of l.sizes (words (before_first is_newline (drop l.from l.text))));
  counted : length (words (before_first is_newline (drop l.from l.text))) ≡ l.size-index + length (words (before_first is_newline (drop l.at l.text)));
  behind : after_first is_newline (drop l.from l.text) ≡ after_first is_newline (drop l.at l.text);
  kept : take (length l.initial.coords.items) l.coords.items ≡ l.initial.coords.items;
}
