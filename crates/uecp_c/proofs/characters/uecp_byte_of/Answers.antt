use Rattle.std.proofs.Common.{◌≡◌, ℕ, Some, arith, inr, refl}
use Rattle.rds_text.specs.BasicSet.{character_of}
use Rattle.rds_text.proofs.Public.{small}
use Rattle.uecp_c.proofs.characters.uecp_byte_of.Goals as goal

-- a number that is no character is above those of the set
pub returns-in-None : goal.returns-in-None
returns-in-None c =
    inr (
      refl,
      λ (byte : ℕ) (is : character_of byte ≡ Some c.args.character).
          let below = small byte c.args.character is in absurd (omega (arith, below, c.in-None.ensures.cases)),
    )
