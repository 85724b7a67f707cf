use Rattle.std.proofs.Common.{◌≡◌, sym, ap, ◌∙◌, subst, take, []}
use Rattle.std.proofs.KnownBytes.{Keeps-trans}
use Rattle.std.specs.Io.KnownBytes.{Keeps}
use Rattle.device_edges.specs.declared.screen.Phase.TheVariants.{Judging}
use Rattle.device_edges.proofs.FirstBytes.{of, begun, untold, read_after, consumes_after, first_ours, first_foreign}
use Rattle.device_edges.proofs.FirstBytes.{first_held, nothing_left}
use Rattle.device_edges.proofs.screen.Screened.begin.Goals as goal

pub hold-requires-clause-begun : goal.hold-requires-clause-begun
hold-requires-clause-begun g c =
    (untold (take c.in_ok-count.count c.read.new.buf) (sym c.phase_of.ensures ∙ c.in-Judging.is)).1

pub returns-in-Ours-clause-bytes : goal.returns-in-Ours-clause-bytes
returns-in-Ours-clause-bytes g c = (
  consumes_after _ _ _ (take c.in_ok-count.count c.read.new.buf)
      (begun g.R.Read.remaining _ c.args.self.now c.self.view_is c.requires.phase)
      (first_ours (g.R.Read.remaining c.self.inside.reader) (g.R.Read.remaining c.read.new.self)
      c.self.inside.first.items
      (take c.in_ok-count.count c.read.new.buf) (ap (λ s. s.first) c.self.view_is ∙ c.requires.first)
      c.in_ok-count.ensures.bytes.0 (sym c.phase_of.ensures ∙ c.in-Ours.is)),
  λ none. absurd (c.if-count-eq0.false none),
)

pub returns-in-Foreign-clause-bytes : goal.returns-in-Foreign-clause-bytes
returns-in-Foreign-clause-bytes g c = (
  consumes_after _ _ _ [] (begun g.R.Read.remaining _ c.args.self.now c.self.view_is c.requires.phase)
      (first_foreign (g.R.Read.remaining c.self.inside.reader) (g.R.Read.remaining c.read.new.self)
      c.self.inside.first.items (take c.in_ok-count.count c.read.new.buf)
      (ap (λ s. s.first) c.self.view_is ∙ c.requires.first) c.in_ok-count.ensures.bytes.0
      (sym c.phase_of.ensures ∙ c.in-Foreign.is)),
  λ _ _. nothing_left (g.R.Read.remaining c.read.new.self) c.self.inside.first.items,
)

pub returns-in-Judging-clause-bytes : goal.returns-in-Judging-clause-bytes
returns-in-Judging-clause-bytes g c =
    let rest = g.R.Read.remaining c.self.inside.reader in
    let rest' = g.R.Read.remaining c.read.new.self in
    let bytes = take c.in_ok-count.count c.read.new.buf in
    let held : Keeps (of Judging c.self.inside.first.items rest) (of Judging c.hold.new.first.items rest') =
    subst (λ xs. Keeps (of Judging c.self.inside.first.items rest) (of Judging xs rest')) (sym c.hold.ensures)
    (first_held rest rest' c.self.inside.first.items bytes (ap (λ s. s.first) c.self.view_is ∙ c.requires.first)
    c.in_ok-count.ensures.bytes.0) in
    let judging : c.self.inside.phase ≡ Judging = ap (λ s. s.phase) c.self.view_is ∙ c.requires.phase in
    read_after _ _ _ c.go_on.result c.go_on.new.buf
    (Keeps-trans _ _ _ (begun g.R.Read.remaining _ c.args.self.now c.self.view_is c.requires.phase)
    (subst (λ p. Keeps (of Judging c.self.inside.first.items rest) (of p c.hold.new.first.items rest')) (sym judging)
    held))
    c.go_on.ensures.bytes
