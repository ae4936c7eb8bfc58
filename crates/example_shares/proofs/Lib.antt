mod ListSteps
