-- What a draft stands for.
use Rattle.std.specs.Prelude.{Bool, if◌then◌else◌, Option, Some, None}
use Rattle.run_text.specs.declared.draft.Draft.{Draft}
use Rattle.run_text.specs.Parts.{Part, part}

-- what the draft holds
abbrev pub part_of : Draft → Part
part_of draft = part draft.stage draft.jobs.items draft.ticks.items

-- what the draft holds, if the line fits
abbrev pub part_if : Bool → Draft → Option Part
part_if fits draft = if fits then Some (part_of draft) else None
