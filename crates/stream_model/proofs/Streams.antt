-- The stream of a label is the fibers of its tree, written out.
use Rattle.std.specs.Prelude.{◌≡◌, ◌≤◌, ℕ, List, refl}
use Rattle.std.proofs.Common.{◌∙◌, ap}
use Rattle.sam_model.specs.declared.tensors.Entries.{Entries}
use Rattle.sam_model.specs.declared.program.Program.{Program}
use Rattle.stream_tokens.specs.Nest.{Nest, nmap, Leaf, leaf, Fiber, IsStream}
use Rattle.stream_tokens.specs.Flat.{flat, fibers_of}
use Rattle.stream_tokens.proofs.Fibers.{stream-fibers, fibers_of-stream}
use Rattle.stream_tokens.proofs.Algebra.{fibers-nmap}
use Rattle.stream_model.specs.declared.labels.Attr.{Attr}
use Rattle.stream_model.specs.declared.labels.Label.{Label}
use Rattle.stream_model.specs.Grow.{paths}
use Rattle.stream_model.specs.Labels.{Shape, token, stream_at, fibers_at, shape_of, label_stream}

abbrev told_nest : (s : Shape) → Attr → Nest Leaf s.depth
told_nest s a = nmap {A = List ℕ} {B = Leaf} s.depth (token s a) (paths s.ok s.sizes s.depth)

pub stream_at-flat : (s : Shape) (a : Attr) → stream_at s a ≡ flat leaf (fibers_at s a)
stream_at-flat s a =
    stream-fibers s.depth (told_nest s a)
    ∙ ap (λ (fs : List (Fiber Leaf)). flat leaf fs) (fibers-nmap {A = List ℕ} {B = Leaf} s.depth (token s a) (paths s.ok s.sizes s.depth))

pub fibers_of-stream_at : (s : Shape) (a : Attr) → fibers_of (stream_at s a) ≡ fibers_at s a
fibers_of-stream_at s a =
    fibers_of-stream s.depth (told_nest s a) ∙ fibers-nmap {A = List ℕ} {B = Leaf} s.depth (token s a) (paths s.ok s.sizes s.depth)

pub stream_at-IsStream : (s : Shape) (a : Attr) → s.depth ≤ 200 → IsStream (stream_at s a)
stream_at-IsStream s a h = (s.depth, h, told_nest s a, refl)

pub label_stream-IsStream : (p : Program) (es : List Entries) (l : Label) → (shape_of p es l.tree).depth ≤ 200 → IsStream (label_stream p es l)
label_stream-IsStream p es l h = stream_at-IsStream (shape_of p es l.tree) l.attr h
