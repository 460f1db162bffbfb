-- The words of files and sinks, tried by evaluation.
use Rattle.std.proofs.Common.{◌≡◌, [], ◌∷◌, refl, Some, None, Ok}
use Rattle.std.specs.Prelude.{codes}
use Rattle.sam_io.specs.Outside.{Told, bytes_of, advanced, grown, taken}
use Rattle.sam_io.specs.Opening.{place_after}
use Rattle.sam_io.specs.Held.{raised}
use Rattle.sam_io.specs.declared.outside.Failed.{Failed}
use Rattle.sam_io.specs.declared.outside.Opened.TheVariants.{Found, Missing}

-- a vector in two files, one of which is named twice
abbrev vectors : Told
vectors = (codes "b.tns", codes "1 2") ∷ (codes "c.tns", codes "3 5") ∷ (codes "b.tns", codes "9 9") ∷ []

first_pair : bytes_of vectors (codes "b.tns") ≡ Some (codes "1 2")
first_pair = refl

later_name : bytes_of vectors (codes "c.tns") ≡ Some (codes "3 5")
later_name = refl

no_name : bytes_of vectors (codes "b") ≡ None
no_name = refl

opened : place_after {E = Failed} (codes "b.tns") (Ok Found) ≡ Some (codes "b.tns", 0)
opened = refl

not_opened : place_after {E = Failed} (codes "x.tns") (Ok Missing) ≡ None
not_opened = refl

two_more : advanced {E = Failed} (Some (codes "b.tns", 1)) (Ok 2) ≡ Some (codes "b.tns", 3)
two_more = refl

part_written : grown (Some (codes "3 ")) (taken {E = Failed} (codes "35") (Ok 1)) ≡ Some (codes "3 3")
part_written = refl

untold_stays : grown None (codes "35") ≡ None
untold_stays = refl

counts_rise : raised 4 ≡ 5
counts_rise = refl

counts_stand : raised 18446744073709551615 ≡ 18446744073709551615
counts_stand = refl
