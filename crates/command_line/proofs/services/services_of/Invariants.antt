use Rattle.std.proofs.Common.{◌≡◌, [], ◌∷◌, map, Ok}
use Rattle.hex.specs.Hex.{decode_sized}
use Rattle.command_line.proofs.services.services_of.Given as goal

-- the bytes so far are those of the parts so far
abbrev pub invariant-loop-word : goal.invariant-loop-word
invariant-loop-word l = map (λ part. decode_sized part 1) (map (λ word. word.now) l.yielded)
    ≡ map (λ byte. Ok (byte ∷ [])) l.services.items
