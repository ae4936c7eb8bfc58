mod EntryLaws
mod RoundLaws
mod WrittenEntries
mod InversionLaws
mod LaneRounds
mod CosetValueLaws
