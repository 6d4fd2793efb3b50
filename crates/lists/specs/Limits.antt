use Rattle.std.specs.Prelude.{ℕ}

-- the greatest number of a sheet, a certificate or a run
abbrev pub greatest_number : ℕ
greatest_number = 1000000000

-- the greatest value of a step of a curve
abbrev pub greatest_value : ℕ
greatest_value = 1000000

-- the greatest length of a window that the rises of a curve are looked for to
abbrev pub greatest_length : ℕ
greatest_length = 4000000000

-- the most steps of a curve
abbrev pub most_steps : ℕ
most_steps = 10000

-- the most segments of a task, and times of a promise of supply
abbrev pub most_parts : ℕ
most_parts = 1000

-- the most tasks of a sheet, and entries of a certificate
abbrev pub most_tasks : ℕ
most_tasks = 256

-- the most points of a certificate
abbrev pub most_points : ℕ
most_points = 1000000

-- the most jobs of a run
abbrev pub most_jobs : ℕ
most_jobs = 20000

-- the most ticks of a run
abbrev pub most_ticks : ℕ
most_ticks = 100000

-- the most segments of the jobs of a run, together
abbrev pub most_segments : ℕ
most_segments = 1000000
