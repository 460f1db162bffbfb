-- The graph of a program keeps what is promised of it.
use Rattle.std.specs.Prelude.{◌≡◌, ◌<◌, ◌≤◌, ◌^◌, true, List, [], ◌∷◌, length, refl}
use Rattle.std.proofs.Common.{arith, sym, ◌∙◌, ap, subst}
use Rattle.sam_model.specs.declared.program.Term.{Term}
use Rattle.sam_model.specs.declared.program.Program.{Program}
use Rattle.sam_model.specs.Program.{accepted}
use Rattle.graph.specs.declared.graphs.Graph.{Graph}
use Rattle.graph.specs.Wiring.{WellFormed}
use Rattle.graph.specs.Assembly.{FewPayloads}
use Rattle.custard_lower.specs.DraftGraph.{graph_of, ReadsWithin}
use Rattle.label_rules.specs.Holding.{Shallow, RulesMet}
use Rattle.label_rules.specs.Plans.{plan_of}
use Rattle.label_rules.specs.Rules.{Allowed}
use Rattle.custard_lower.specs.Reductions.{Levels}
use Rattle.custard_lower.specs.Lowering.{root, term_levels, first_level_tree, with_terms, with_writers, draft_of, program_draft}
use Rattle.custard_lower.specs.Lowered.{low, Carries, Lowered}
use Rattle.label_rules.proofs.term.SmallPlans.{some_term}
use Rattle.custard_lower.proofs.term.PlainRules.{PlainRules}
use Rattle.custard_lower.proofs.written.ResultGraph.{ResultStands, result-carries, result-formed, result-allowed, result-few, result-reads}
use Rattle.custard_lower.proofs.join.AllTerms.{terms-stand}
use Rattle.custard_lower.proofs.join.PlainServes.{plain-serves}

module _ (p : Program) (ok : accepted p ≡ true) where
  first_term : (ts : List Term) → 1 ≤ length ts → (t : Term) × (rest : List Term) × (ts ≡ t ∷ rest)
  first_term [] n = absurd (omega (arith, n))
  first_term (t ∷ ts) n = (t, ts, refl)

  abbrev first : (t : Term) × (rest : List Term) × (p.terms ≡ t ∷ rest)
  first = first_term p.terms (some_term p ok)

  abbrev levels : Levels
  levels = with_terms p 1 (first_level_tree 0 (plan_of p true first.0)) (term_levels 0 (plan_of p true first.0) (root ∷ [])) first.1

  draft_is : program_draft p ≡ with_writers levels
  draft_is = ap (draft_of p) first.2

  result : ResultStands p (PlainRules p) levels
  result = terms-stand p ok first.0 first.1 first.2

  -- the graph of an accepted program, where its numbers are counted in 32 bits
  pub low-lowered : (g : Graph) → g ≡ low p → length g.blocks < 2 ^ 32 → length g.channels < 2 ^ 32 → Lowered p g
  low-lowered g is blocks channels =
      let graph : graph_of (with_writers levels) ≡ g = ap graph_of (sym draft_is) ∙ sym is in
      record {
        is_low = is;
        computes = record {
          formed = subst WellFormed graph (result-formed p Shallow (PlainRules p) (plain-serves p ok) levels result);
          few_payloads = subst FewPayloads graph (result-few p Shallow (PlainRules p) (plain-serves p ok) levels result);
          few_blocks = blocks;
          few_channels = channels;
          carries = λ es same.
              subst (λ (g : Graph). Carries p g es) graph
              (result-carries p Shallow (PlainRules p) (plain-serves p ok) levels result es same);
        };
      }

  -- the labels of its blocks are allowed
  pub low-allowed : RulesMet (Allowed p) (low p)
  low-allowed =
      subst (λ (g : Graph). RulesMet (Allowed p) g) (sym (ap graph_of draft_is))
      (λ b i. (result-allowed p Shallow (PlainRules p) (plain-serves p ok) levels result b i).allowed)

  -- its draft reads outputs that are there
  pub low-reads : ReadsWithin (program_draft p)
  low-reads = subst ReadsWithin (sym draft_is) (result-reads p Shallow (PlainRules p) (plain-serves p ok) levels result)
