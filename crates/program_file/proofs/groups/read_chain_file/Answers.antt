use Rattle.std.proofs.Common.{◌≡◌, rules, sym, ap, ◌∙◌, subst, ℕ, ◌+◌, length, List, [], ◌∷◌, Ok, Err}
use Rattle.sam_text.specs.Lines.{lines}
use Rattle.sam_text.specs.Counted.{counted_lines}
use Rattle.sam_text.specs.Remaining.{lines_left, past_end}
use Rattle.sam_model.specs.declared.tensors.Tensor.{Tensor}
use Rattle.program_file.specs.declared.files.Group.{Group}
use Rattle.program_file.specs.declared.groups.ChainFile.{ChainFile}
use Rattle.program_file.specs.Refusals.{GivesProgram, FailsProgram, and_then}
use Rattle.program_file.specs.Files.{declarations_in, group_in}
use Rattle.program_file.specs.Chains.{groups_in, chain_file_reading}
use Rattle.program_file.proofs.GroupLemmas.{parts-made, fails-then}
use Rattle.program_file.proofs.groups.read_chain_file.Goals as goal

pub returns-in_err-groups : goal.returns-in_err-groups
returns-in_err-groups c =
    let text = c.args.text.now in
    let past = 1 + length (lines text) in
    let ts = c.in_ok-tensors.tensors in
    let first : Tensor × ℕ = (c.in_ok-tensors.found, c.in_ok-tensors.line) in
    let g = c.in_ok-group.field-0 in
    let ls = lines_left c.group.new.self.lines in
    let fault = c.in_err-groups.field-0.0 in
    let read = groups_in past ts 7 (g ∷ []) ls in
    let declared : declarations_in past [] (counted_lines 1 (lines text)) ≡ Ok ((ts, first), lines_left c.declarations.new.self.lines) = search rules in
    let grouped : group_in past first (lines_left c.declarations.new.self.lines) ≡ Ok (g, ls) = search rules in
    let same = parts-made past (counted_lines 1 (lines text)) ((ts, first), lines_left c.declarations.new.self.lines) (g, ls) declared grouped in
    let past-is : past_end c.group.new.self.lines ≡ past = search rules in
    let first-is : c.push.new.self ≡ g ∷ [] = search rules in
    let behind : FailsProgram fault (groups_in (past_end c.group.new.self.lines) ts 7 c.push.new.self ls) = c.in_err-groups.ensures in
    let fails : FailsProgram fault read =
    subst (λ n. FailsProgram fault (groups_in n ts 7 (g ∷ []) ls)) past-is
    (subst (λ gs. FailsProgram fault (groups_in (past_end c.group.new.self.lines) ts 7 gs ls)) first-is behind) in
    let is : Err fault ≡ c.from_residual-in_err-groups.result = search rules in
    subst (λ r. GivesProgram r (chain_file_reading text)) is (subst (λ r. FailsProgram fault r) (sym same) (fails-then fault read _ fails))

pub returns : goal.returns
returns c =
    let text = c.args.text.now in
    let past = 1 + length (lines text) in
    let ts = c.in_ok-tensors.tensors in
    let first : Tensor × ℕ = (c.in_ok-tensors.found, c.in_ok-tensors.line) in
    let g = c.in_ok-group.field-0 in
    let ls = lines_left c.group.new.self.lines in
    let found = c.in_ok-groups.groups in
    let made : List Tensor → List Group → ChainFile = λ ts groups. record { tensors = ts; groups = groups } in
    let declared : declarations_in past [] (counted_lines 1 (lines text)) ≡ Ok ((ts, first), lines_left c.declarations.new.self.lines) = search rules in
    let grouped : group_in past first (lines_left c.declarations.new.self.lines) ≡ Ok (g, ls) = search rules in
    let same = parts-made past (counted_lines 1 (lines text)) ((ts, first), lines_left c.declarations.new.self.lines) (g, ls) declared grouped in
    let past-is : past_end c.group.new.self.lines ≡ past = search rules in
    let first-is : c.push.new.self ≡ g ∷ [] = search rules in
    let behind : groups_in (past_end c.group.new.self.lines) ts 7 c.push.new.self ls ≡ Ok found = c.in_ok-groups.ensures in
    let read : groups_in past ts 7 (g ∷ []) ls ≡ Ok found =
    subst (λ n. groups_in n ts 7 (g ∷ []) ls ≡ Ok found) past-is
    (subst (λ gs. groups_in (past_end c.group.new.self.lines) ts 7 gs ls ≡ Ok found) first-is behind) in
    let own : ts ≡ c.into_tensors.result = search rules in
    same ∙ ap (λ r. and_then r (λ groups. Ok (made ts groups))) read ∙ ap (λ us. Ok (made us found)) own
