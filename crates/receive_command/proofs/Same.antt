-- The same is shown where each thing is the same.
use Rattle.std.proofs.Common.{◌≡◌, ℕ, Bool, List, Option, ap, ◌∙◌}
use Rattle.receive_command.specs.Shown.{Shown}

abbrev shown_with : (pi : Option ℕ) (name : Option (List ℕ)) (tp ta music : Option Bool) (pty : Option ℕ)
    (text : Option (List ℕ)) → Shown
shown_with pi name tp ta music pty text =
    record { pi = pi; name = name; tp = tp; ta = ta; music = music; pty = pty; text = text }

pub same_shown : (a b : Shown) → a.pi ≡ b.pi → a.name ≡ b.name → a.pty ≡ b.pty → a.tp ≡ b.tp → a.ta ≡ b.ta
    → a.music ≡ b.music → a.text ≡ b.text → a ≡ b
same_shown a b pi name pty tp ta music text =
    ap (λ x. shown_with x a.name a.tp a.ta a.music a.pty a.text) pi
    ∙ ap (λ x. shown_with b.pi x a.tp a.ta a.music a.pty a.text) name
    ∙ ap (λ x. shown_with b.pi b.name x a.ta a.music a.pty a.text) tp
    ∙ ap (λ x. shown_with b.pi b.name b.tp x a.music a.pty a.text) ta
    ∙ ap (λ x. shown_with b.pi b.name b.tp b.ta x a.pty a.text) music
    ∙ ap (λ x. shown_with b.pi b.name b.tp b.ta b.music x a.text) pty
    ∙ ap (λ x. shown_with b.pi b.name b.tp b.ta b.music b.pty x) text
