mod LeastFaults
mod OneAnswer
