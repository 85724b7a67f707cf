-- A slot may go to another thread: its object is plain data, and any thread may give its block back.
use Rattle.std.specs.Prelude.{Option, Some, None}
use mir.Raw.{raw}
use base.Shift.{Keyless}
use denote.Memory.{lone}
use denote.RawPtr.{Ptr}
use denote.Struct.Struct.{exits_of}
use denote.Struct.Owning.{shape, fields, to}
use denote.Param.Send.{IsSend, AllSend, owning_send, struct_send, sendable}
use Rattle.std.specs.Box.Ownership.{box_owns}
use Rattle.std.specs.contracts.alloc.Global as global
use Rattle.std.specs.contracts.impls.GlobalAllocator.TheImpl.{ghosts}
use Rattle.std.proofs.Crossing as heap
use Rattle.std_alloc.proofs.SendSync.{quiet, lies}
use Rattle.std_heap.proofs.Global.TheSendSync as handle
use Rattle.c_values.specs.Slots.{owned}
use Rattle.c_values.specs.contracts.object.Object as object
use Rattle.c_values.proofs.object.Object.TheSendSync.{the_send}
use Rattle.c_values.specs.contracts.slot.Slot.{the_row, the_type}

-- what it owns names no thread
crosses : (at : Ptr) (alloc : global.the_row.Denot) (value : Option object.the_row.Denot)
    → Keyless (owned (box_owns (ghosts.dealloc_token alloc) object.the_row at) value)
crosses at alloc None = tt
crosses at alloc (Some value) =
    (lies object.the_row the_send at value, heap.frees.frees alloc (raw (lone object.the_row.mir)) at)

pub send : IsSend the_row
send =
    let all : AllSend (fields the_type) = (search sendable, (handle.the_field_send, tt)) in
    owning_send the_type all (λ d. crosses d.at d.alloc d.value)
    (λ k. quiet (to the_type) (exits_of k (fields the_type)) ((struct_send (shape the_type) all).leaving k))
