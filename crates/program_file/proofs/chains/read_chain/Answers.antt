use Rattle.std.proofs.Common.{◌≡◌, ◌≤◌, length}
use Rattle.std.proofs.lemmas.Result.{IfOk-weaker}
use Rattle.sam_model.specs.Chains.{AreChained}
use Rattle.program_file.proofs.StepLemmas.{IsChain, if-chain, chain-read}
use Rattle.program_file.proofs.chains.read_chain.Goals as goal

pub returns : goal.returns
returns c =
    let text = c.args.text.now in
    let file = c.in_ok-file.file in
    let res = c.chain_of.result in
    let read = c.in_ok-file.ensures in
    let made = c.chain_of.ensures in
    let known = if-chain text file res c.requires read made.exact in
    record {
      follow = IfOk-weaker res IsChain (λ c. AreChained c.steps) (λ c k. k.follow) known;
      some = IfOk-weaker res IsChain (λ c. 1 ≤ length c.steps) (λ c k. k.some) known;
      few = IfOk-weaker res IsChain (λ c. length c.steps ≤ 8) (λ c k. k.few) known;
      each_line = IfOk-weaker res IsChain (λ c. length c.lines ≡ length c.steps) (λ c k. k.each_line) known;
      lines = made.lines;
      exact = chain-read text file res read made.exact;
    }
