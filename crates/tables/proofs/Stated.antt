-- The statements of specs/Theorems, proved.
use Rattle.std.proofs.Common.{true}
use mathlib.Core.Bool.{Bool-set}
use mathlib.Core.Logic.{∥∥₁_elim, ∥∥₁_prop}
use Rattle.tables.specs.Theorems.{Told, ColumnsAreExact, OffersAreShown, CommandsAreComplete, NamesFollowByContext, ColumnsKeep}
use Rattle.tables.proofs.Contexts.{follows_reached, reached_follows}
use Rattle.tables.proofs.Offering.{offered_shown, shown_offered}
use Rattle.tables.proofs.Closing.{command_complete, complete_command}
use Rattle.tables.proofs.Dues.{column_exact}
use Rattle.tables.proofs.Filled.{column_agrees}

pub columns_are_exact : ColumnsAreExact
columns_are_exact g ws test j h x s f d = column_exact g ws (Told test) j (λ i m r k. Bool-set (test i m r k) true) h x s f d

pub offers_are_shown : OffersAreShown
offers_are_shown g h ws w = (offered_shown g ws w, λ s. ∥∥₁_elim s ∥∥₁_prop (shown_offered g h ws w))

pub commands_are_complete : CommandsAreComplete
commands_are_complete g ws = (command_complete g ws, λ c. ∥∥₁_elim c ∥∥₁_prop (complete_command g ws))

pub names_follow_by_context : NamesFollowByContext
names_follow_by_context g ws a = (follows_reached g ws a, reached_follows g ws a)

pub columns_keep : ColumnsKeep
columns_keep g ws vs table m h e c = column_agrees g ws vs table m h e c
