-- The program's definitions on written-out command lines.
use Rattle.std.proofs.Common.{◌≡◌, ℕ, List, [], ◌∷◌, codes, Some, refl}
use Rattle.clap.specs.Simple.{subcommand_of}
use Rattle.clap.specs.Faults.{fault_of, walk_fault, defaults_fault}
use Rattle.clap.specs.Walk.{walked}
use Rattle.clap.specs.declared.error.kind.ErrorKind.TheVariants as kind
use Rattle.hex.specs.Hex.{decode_pairs}
use Rattle.std.specs.Option.{option_map}
use Rattle.command_line.specs.CommandLine.{uecp_app, IsList}

abbrev line_words : List (List ℕ)
line_words = codes "uecp" ∷ codes "line" ∷ codes "--site" ∷ codes "7" ∷ codes "--services=01,0A" ∷ []

no_fault_of_a_line : fault_of uecp_app line_words ≡ []
unfolding walk_fault walked defaults_fault
no_fault_of_a_line = refl

command_of_a_line : option_map {U = List ℕ} (λ p. p.0) (subcommand_of uecp_app line_words) ≡ Some (codes "line")
unfolding walked
command_of_a_line = refl

abbrev server_words : List (List ℕ)
server_words = codes "uecp" ∷ codes "server" ∷ codes "--port" ∷ codes "4000" ∷ codes "--reconnects=0" ∷ codes "--window"
    ∷ codes "8" ∷ []

no_fault_of_a_server : fault_of uecp_app server_words ≡ []
unfolding walk_fault walked defaults_fault
no_fault_of_a_server = refl

command_of_a_server : option_map {U = List ℕ} (λ p. p.0) (subcommand_of uecp_app server_words) ≡ Some (codes "server")
unfolding walked
command_of_a_server = refl

-- a server has to be given its port; an encoder may have it in its address
server_without_a_port : fault_of uecp_app (codes "uecp" ∷ codes "server" ∷ []) ≡ kind.MissingRequiredArgument ∷ []
unfolding walk_fault walked defaults_fault
server_without_a_port = refl

encoder_without_a_port : fault_of uecp_app (codes "uecp" ∷ codes "encoder" ∷ []) ≡ []
unfolding walk_fault walked defaults_fault
encoder_without_a_port = refl

two_services : IsList (codes "01,0a") (0x01 ∷ 0x0A ∷ [])
unfolding decode_pairs
two_services = refl
