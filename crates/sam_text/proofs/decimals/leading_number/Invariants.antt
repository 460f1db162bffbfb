use Rattle.std.proofs.Common.{◌≡◌, ◌≤◌, ◌<◌, ◌-◌, ◌^◌, length, take, true}
use Rattle.std.specs.List.{list_all}
use Rattle.sam_text.specs.Bytes.{is_digit}
use Rattle.sam_text.specs.Numbers.{decimal}
use Rattle.sam_text.proofs.decimals.leading_number.Given as goal

abbrev pub invariant-loop-count : goal.invariant-loop-count
invariant-loop-count l = record {
  within : l.count ≤ length l.word;
  most : l.count ≤ 19;
  spelled : l.number ≡ decimal (take l.count l.word);
  digits : list_all is_digit (take l.count l.word) ≡ true;
  small : l.number < 10 ^ l.count;
}

abbrev pub decreases-loop-count : goal.decreases-loop-count
decreases-loop-count l = length l.word - l.count
