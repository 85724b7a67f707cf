-- Why a path can't be opened, as it is said (profile).
use Rattle.std.specs.Prelude.{ℕ, List, codes}
use Rattle.sqlite_image.specs.declared.path_fault.PathFault.{PathFault}
use Rattle.sqlite_image.specs.declared.path_fault.PathFault.TheVariants as path

-- The reason as it is said, behind the file.
abbrev pub path_text : PathFault → List ℕ
path_text path.NoFolder = codes "no such folder"
path_text path.NoFile = codes "no such file"
path_text path.NotPermitted = codes "not permitted"
path_text path.ReadOnly = codes "read-only"
path_text path.Folder = codes "it is a folder"
path_text path.NoPlainFile = codes "it is no file"
path_text path.SecondName = codes "it has a second name"
path_text path.Log = codes "its log is no file, or has a second name"
path_text path.Journal = codes "it has a rollback journal"
path_text path.NoName = codes "it is no name of a file"
path_text path.Other = codes "it can't be opened"
