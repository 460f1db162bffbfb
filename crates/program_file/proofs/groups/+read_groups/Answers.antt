use Rattle.std.proofs.Common.{◌≡◌, rules, sym, subst, Err, ◌-◌, ◌++◌, ◌∷◌, []}
use Rattle.sam_text.specs.Remaining.{lines_left, past_end, numbered}
use Rattle.program_file.specs.Refusals.{GivesProgram, FailsProgram, and_then}
use Rattle.program_file.specs.Chains.{later_group, groups_in}
use Rattle.program_file.proofs.GroupLemmas.{groups-more, fails-then}
use Rattle.program_file.proofs.groups.+read_groups.Goals as goal

pub returns-in_err-group : goal.returns-in_err-group
returns-in_err-group t c =
    let past = past_end c.args.reader.now.lines in
    let ts = c.args.tensors.now in
    let groups = c.args.groups in
    let l = numbered c.in-Some.line in
    let ls = lines_left c.next.new.self.lines in
    let fault = c.in_err-group.field-0.0 in
    let read = later_group past ts groups l ls in
    let all = groups_in past ts c.args.room groups (lines_left c.args.reader.now.lines) in
    let same : all ≡ and_then read (λ g. groups_in past ts (c.args.room - 1) (groups ++ g.0 ∷ []) g.1) =
    groups-more past ts c.args.room groups (lines_left c.args.reader.now.lines) l ls (search rules) (search rules) in
    let fails : FailsProgram fault read = search rules in
    let is : Err fault ≡ c.from_residual.result = search rules in
    subst (λ r. GivesProgram r all) is (subst (λ r. FailsProgram fault r) (sym same) (fails-then fault read _ fails))

pub returns : goal.returns
returns t c =
    let past = past_end c.args.reader.now.lines in
    let ts = c.args.tensors.now in
    let groups = c.args.groups in
    let l = numbered c.in-Some.line in
    let ls = lines_left c.next.new.self.lines in
    let same = groups-more past ts c.args.room groups (lines_left c.args.reader.now.lines) l ls (search rules) (search rules) in
    subst (λ r. GivesProgram c.read_groups.result r) (sym same) (search rules)
