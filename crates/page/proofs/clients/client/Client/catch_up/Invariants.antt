-- So far events were put behind what waited.
use Rattle.std.proofs.Common.{◌≡◌, ◌⊎◌, List, []}
use Rattle.page.specs.Events.{Event}
use Rattle.page.specs.Sending.{Delivers, FewWait, IsLive}
use Rattle.page.specs.ClientView.{standing_of, came_of}
use Rattle.page.proofs.clients.client.Client.catch_up.Given as goal

abbrev pub invariant-loop-event : goal.invariant-loop-event
invariant-loop-event l = record {
  sends : IsLive (standing_of l.fn.self) → (events : List Event)
      × Delivers l.history events [] (standing_of l.fn.self) (standing_of l.self);
  phase : l.self.phase ≡ l.fn.self.phase;
  came : came_of l.self ≡ came_of l.fn.self;
  few : ((standing_of l.self).output ≡ (standing_of l.fn.self).output) ⊎ FewWait (standing_of l.self);
}
