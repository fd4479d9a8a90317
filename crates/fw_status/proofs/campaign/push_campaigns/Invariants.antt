use Rattle.std.proofs.Common.{◌≡◌, ◌≤◌, ◌++◌, ℕ, map}
use Rattle.std.specs.List.{AllByRecursion}
use Rattle.fw_book.specs.Contents.{Offered}
use Rattle.fw_status.specs.Campaigns.{campaigns_of, status_of_entry}
use Rattle.fw_status.proofs.campaign.push_campaigns.Given as goal

abbrev pub invariant-loop-serial : goal.invariant-loop-serial
invariant-loop-serial l =
    record {
      numbered : AllByRecursion (λ (entry : ℕ × Offered). 1 ≤ entry.0) l.serial-iterator;
      campaigns : l.campaigns.items ++ map (λ (entry : ℕ × Offered). status_of_entry l.notes l.book.head entry) l.serial-iterator
          ≡ l.initial.campaigns.items ++ campaigns_of l.notes l.book;
    }
