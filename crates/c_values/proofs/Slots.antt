-- A slot with an object, and an unboxed one, own what a box of it owns. Assumes `Logic`.
use mir.Syntax.{impl, tnil, dnil}
use mathlib.Core.List.{[]}
use denote.RattleType.{RattleType}
use Rattle.std.specs.contracts.alloc.Global as global
use Rattle.std.proofs.alloc.Global.TheLaws as global_laws
use Rattle.std.specs.contracts.impls.GlobalAllocator.TheImpl.{ghosts, dict}
use Rattle.std_alloc.proofs.BoxSteps.Form.{Bx}
use Rattle.c_values.specs.contracts.object.Object as object
use Rattle.c_values.proofs.object.Object.TheLaws as object_laws
use Rattle.c_values.specs.contracts.slot.Slot as slot
use Rattle.c_values.specs.contracts.unboxed.Unboxed as unboxed

-- a box of an object
abbrev pub Boxed : Bx
Boxed = record {
  row = object.the_row;
  laws = object_laws.the_row_laws;
  al = record {
    row = global.the_row;
    laws = global_laws.the_row_laws;
    g = ghosts;
    d = dict;
    drops = impl [] tnil dnil;
  };
}

abbrev pub ASlot : RattleType
ASlot = slot.the_row

abbrev pub AnUnboxed : RattleType
AnUnboxed = unboxed.the_row object.the_row global.the_row ghosts
