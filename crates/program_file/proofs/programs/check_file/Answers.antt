use Rattle.std.proofs.Common.{◌≡◌, Ok, rules, subst}
use Rattle.program_file.specs.Refusals.{GivesProgram}
use Rattle.program_file.specs.Numbers.{numbering}
use Rattle.program_file.specs.Programs.{left_of, sizes_of, file_tops, bound_of, numbered_reading}
use Rattle.program_file.proofs.FileLemmas.{file-numbered}
use Rattle.program_file.proofs.programs.check_file.Goals as goal

pub returns : goal.returns
returns c =
    let f = c.args.file in
    let vars = c.in_ok-vars.vars in
    let names = c.in_ok-names.names in
    let s = c.in_ok-statement.statement in
    let bound : bound_of f ≡ Ok vars = c.in_ok-vars.ensures in
    let by : names ≡ numbering vars f.loops = search rules in
    let left : s.left ≡ left_of names f = search rules in
    let tops : s.tops ≡ file_tops names f = search rules in
    let sizes : s.sizes ≡ sizes_of names f vars = search rules in
    let names-are : c.as_slice-5.result.now ≡ names = search rules in
    let vars-are : c.as_slice-6.result.now ≡ vars = search rules in
    let res = c.numbered_program.result in
    let read : GivesProgram res (numbered_reading names f vars s.left s.tops s.sizes) =
    subst (λ vs. GivesProgram res (numbered_reading names f vs s.left s.tops s.sizes)) vars-are
    (subst (λ ns. GivesProgram res (numbered_reading ns f c.as_slice-6.result.now s.left s.tops s.sizes)) names-are c.numbered_program.ensures) in
    subst (λ r. GivesProgram res r) (file-numbered f vars names s.left s.tops s.sizes bound by left tops sizes) read
