mod RepeatRuns
mod CastRuns
mod DrainRuns
