-- What is answered of the room that a run needs, from what is found over the stored tensors.
use Rattle.std.proofs.Common.{◌≡◌, ◌∙◌, ℕ, List, ap, subst, sym, refl, Ok}
use Rattle.sam_base.specs.declared.TheConstants.{CAPACITY_MOST}
use Rattle.sam_base.specs.declared.faults.Waiting.{Waiting}
use Rattle.sam_model.specs.declared.tensors.Entries.{Entries}
use Rattle.sam_model.specs.declared.program.Program.{Program}
use Rattle.sam_model.specs.Children.{Ranked}
use Rattle.graph.specs.declared.graphs.Graph.{Graph}
use Rattle.plays.specs.Net.{Net}
use Rattle.sam_sizing.specs.declared.least.Least.{Least}
use Rattle.sam_sizing.specs.declared.least.Least.TheVariants.{Found}
use Rattle.sam_sizing.specs.Least.{IsLeast}
use Rattle.sam_sizing.specs.Makers.{kinds_over, MakesFor, WhateverStored}
use Rattle.custard_lower.specs.Lowered.{Computes}
use Rattle.inputs.specs.Tensors.{AreStored}
use Rattle.machines.proofs.ProgramMachines.{program-runs, same-net}
use Rattle.runs.specs.Sizes.{SizesTo, size_text, size_answer}

module _ (p : Program) (g : Graph) (computes : Computes p g) (es : List Entries) (storages : List Ranked) (are : AreStored p.tensors es storages) where
  -- the blocks that are made anew are the graph's own
  pub made-for : MakesFor storages g (kinds_over storages g)
  made-for = record { own = refl; consistent = (program-runs p g computes es storages are).consistent }

  pub sized-with : (least : Least)
      → WhateverStored g (kinds_over storages g) (λ net. IsLeast net CAPACITY_MOST least) → SizesTo p g es (size_answer least)
  sized-with least found = record {
    computes = computes;
    each = are.each;
    least = least;
    is_least = subst (λ (net : Net). IsLeast net CAPACITY_MOST least) (same-net p g computes es storages are) (found storages made-for);
    answered = refl;
  }

  -- the text of the least capacity
  pub sized-text : (capacity : ℕ) (below told : List Waiting) (text : List ℕ)
      → WhateverStored g (kinds_over storages g) (λ net. IsLeast net CAPACITY_MOST (Found capacity below)) → told ≡ below
      → text ≡ size_text capacity told → SizesTo p g es (Ok text)
  sized-text capacity below told text found same is =
      subst (λ (t : List ℕ). SizesTo p g es (Ok t)) (sym (is ∙ ap (size_text capacity) same))
      (sized-with (Found capacity below) found)
